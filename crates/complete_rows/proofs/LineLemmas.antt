-- The parts of the rows of a run are elements.
use Rattle.complete_rows.proofs.Words
use Words.{◌≡◌, ℕ, suc, ◌+◌, ◌-◌, ◌*◌, ◌/◌, ◌%◌, ◌<◌, ◌≤◌, All, Bool, true, false, cond, eqb, List, [], ◌∷◌, length, drop, slice_index, arith, lit<, All-cons}
use Words.{All-drop, All-from_recursion, All-head, All-nil, All-tail, most_cycles, prime, AreElements, felt_inv, Core, IsWellFormedCore, ◌⊟◌, elements-cons}
use Words.{elements-drop, elements-index, elements-none, elements-take, code_of, Op, positions_in_use, visible_of, Event, Visible, IsLowUnread, IsBounded}
use Words.{IsLowBlock, IsSmallCore, Open, Decoder, address_of, hash_by, line_of, witnesses_by, Kind, kind_of, cell, limbs_by, limbs_of, word_rest, repeats_by}
use Words.{operation_witnesses}
use Words.ops
use Words.kinds
use Rattle.std.proofs.lemmas.List.Elements.{All-weaker}
use Rattle.std.specs.List.{AllByRecursion}
use Rattle.vm_field.proofs.Elements.{elements-append, elements-one}
use Rattle.complete_rows.specs.Turns.{repeats}
use Rattle.complete_rows.specs.Witnesses.{batch_witnesses, difference, first_inverse, first_witness, upper_half}
use Rattle.complete_rows.proofs.BoundLemmas.{few_respans}
use Rattle.complete_rows.proofs.LowLemmas.{◌▸◌, IsLowLine, inverse_low, sub_low}

-- ---- limbs

low_limb : (n : ℕ) → n % 65536 < prime
low_limb n = omega arith

high_limb : (n : ℕ) → n < prime → n / 65536 < prime
high_limb n low = omega (arith, low)

-- those of cells one after another
low_cells : (v : Visible) → AreElements v.cells → (j : ℕ) {P : Type 0} → P → (cell v j % 65536 < prime) × ((cell v j / 65536 < prime) × P)
low_cells v h j others = low_limb (cell v j) ▸ high_limb (cell v j) (elements-index v.cells j h) ▸ others

last_cell : (v : Visible) → AreElements v.cells → (j : ℕ) → (cell v j < prime) × Unit {0}
last_cell v h j = (elements-index v.cells j h, tt)

last_number : (n : ℕ) → n < prime → (n % 65536 < prime) × ((n / 65536 < prime) × Unit {0})
last_number n low = (low_limb n, (high_limb n low, tt))

module _ (x y : Visible) (h : AreElements x.cells) (g : AreElements y.cells) where
  low_parts : (op : Op) → AllByRecursion (λ e. e < prime) (limbs_by op x y)
  low_parts ops.U32Split = low_cells y g 1 (low_cells y g 0 tt)
  low_parts ops.U32Assert2 = low_cells x h 0 (low_cells x h 1 tt)
  low_parts ops.U32Sub = low_cells x h 0 (low_cells x h 1 (low_cells y g 1 tt))
  low_parts ops.U32Add = low_cells x h 0 (low_cells x h 1 (low_cells y g 1 (last_cell y g 0)))
  low_parts ops.U32Mul = low_cells x h 0 (low_cells x h 1 (low_cells y g 1 (low_cells y g 0 tt)))
  low_parts ops.U32Add3 = low_cells x h 0 (low_cells x h 1 (low_cells x h 2 (low_cells y g 1 (last_cell y g 0))))
  low_parts ops.U32MAdd = low_cells x h 0 (low_cells x h 1 (low_cells x h 2 (low_cells y g 1 (low_cells y g 0 tt))))
  low_parts ops.U32Div =
      let rest : cell x 0 - cell y 0 - 1 < prime = let low = elements-index x.cells 0 h in omega (arith, low) in
      low_cells x h 0 (low_cells x h 1 (low_cells y g 1 (low_cells y g 0 (last_number (cell x 0 - cell y 0 - 1) rest))))
  low_parts op = tt

  low_limbs : (op : Op) → AreElements (limbs_by op x y)
  low_limbs op = All-from_recursion (λ e. e < prime) (limbs_by op x y) (low_parts op)

low_rest : (op : Op) (word : List ℕ) → AreElements word → AreElements (word_rest op word)
low_rest ops.MLoad word h = elements-drop 1 word h
low_rest ops.MStore word h = elements-drop 1 word h
low_rest op word h = elements-none

low_row_limbs : (e : Event) (v : Visible) → AreElements e.before.cells → AreElements v.cells → AreElements e.word → AreElements (limbs_of e v)
unfolding limbs_of
low_row_limbs e v h g k =
    elements-append (limbs_by e.op e.before v) (word_rest e.op e.word) (low_limbs e.before v h g e.op) (low_rest e.op e.word k)

-- ---- witnesses

low_difference : (op : Op) (x y : Visible) → AreElements x.cells → difference op x y < prime
low_difference ops.Eqz x y h = elements-index x.cells 0 h
low_difference ops.Eq x y h = sub_low (cell x 0) (cell x 1)
low_difference ops.U32Split x y h = sub_low 4294967295 (cell y 0)
low_difference ops.U32Mul x y h = sub_low 4294967295 (cell y 0)
low_difference ops.U32MAdd x y h = sub_low 4294967295 (cell y 0)
low_difference op x y h = lit< tt

low_first : (op : Op) (address : ℕ) (x y : Visible) → address < prime → AreElements x.cells → first_witness op address x y < prime
low_first ops.HPerm address x y low h = low
low_first op address x y low h = inverse_low (difference op x y) (low_difference op x y h)

zero_low : 0 < prime
zero_low = lit< tt

low_operation : (op : Op) (address number : ℕ) (x y : Visible) → address < prime → AreElements x.cells
    → AreElements (operation_witnesses op address number x y)
unfolding operation_witnesses
low_operation op address number x y low h =
    All-from_recursion (λ e. e < prime) (operation_witnesses op address number x y)
    (low_first op address x y low h ▸ zero_low ▸ zero_low ▸ inverse_low (number ⊟ code_of op) (sub_low number (code_of op)) ▸ tt)

low_inverse : (xs : List ℕ) → AreElements xs → AreElements (first_inverse xs)
low_inverse [] h = elements-none
low_inverse (x ∷ xs) h = go (low_inverse xs (All-tail (λ e. e < prime) x xs h)) (eqb x 0)
  where
    go : AreElements (first_inverse xs) → (b : Bool) → AreElements (cond b (0 ∷ first_inverse xs) (felt_inv x ∷ []))
    go rest true = elements-cons 0 (first_inverse xs) (lit< tt) rest
    go rest false = elements-one (felt_inv x) (inverse_low x (All-head (λ e. e < prime) x xs h))

low_batch : (batch : List ℕ) → AreElements batch → AreElements (batch_witnesses batch)
low_batch batch h =
    low_inverse (upper_half batch) (elements-take (positions_in_use batch / 2) (drop (positions_in_use batch / 2) batch)
    (elements-drop (positions_in_use batch / 2) batch h))

-- ---- how often loops repeat

counts_by : (k : Kind) (counts : List ℕ) (n : ℕ) → All (λ c. c ≤ n) counts → All (λ c. c ≤ suc n) (repeats_by k counts)
counts_by k counts n h = by k
  where
    more : All (λ c. c ≤ suc n) counts
    more = All-weaker (λ c. c ≤ n) (λ c. c ≤ suc n) (λ c low. omega (arith, low)) counts h

    closed : All (λ c. c ≤ suc n) (drop 1 counts)
    closed = All-drop (λ c. c ≤ suc n) 1 counts more

    first_low : (cs : List ℕ) → All (λ c. c ≤ n) cs → slice_index cs 0 ≤ n
    first_low [] g = omega arith
    first_low (c ∷ cs) g = All-head (λ c. c ≤ n) c cs g

    by : (kind : Kind) → All (λ c. c ≤ suc n) (repeats_by kind counts)
    by kinds.Ordinary = more
    by kinds.End = All-cons (λ c. c ≤ suc n) 0 counts (omega arith) more
    by kinds.Repeat = All-cons (λ c. c ≤ suc n) (suc (slice_index counts 0)) (drop 1 counts)
        (let low : slice_index counts 0 ≤ n = first_low counts h in omega (arith, low)) closed
    by kinds.Respan = more
    by kinds.Halt = more
    by kind = closed

counts_low : (events : List Event) → All (λ c. c ≤ length events) (repeats events)
unfolding repeats
counts_low [] = All-nil (λ c. c ≤ 0)
counts_low (e ∷ later) = counts_by (kind_of e.op) (repeats later) (length later) (counts_low later)

pub few_repeats : (events : List Event) → slice_index (repeats events) 0 ≤ length events
few_repeats events = go (repeats events) (counts_low events)
  where
    go : (cs : List ℕ) → All (λ c. c ≤ length events) cs → slice_index cs 0 ≤ length events
    go [] h = omega arith
    go (c ∷ cs) h = All-head (λ n. n ≤ length events) c cs h

-- ---- the line

low_witnesses : (k : Kind) (d : Decoder) (e : Event) (v : Visible) (later : List Event) → d.next < prime → AreElements e.before.cells
    → AreElements e.hash → length later ≤ most_cycles → AreElements (witnesses_by k d e v later)
low_witnesses kinds.Ordinary d e v later next cells hash few = low_operation e.op d.next d.unread.number e.before v next cells
low_witnesses kinds.Loop d e v later next cells hash few =
    elements-one (slice_index (repeats later) 0) (let low = few_repeats later in omega (arith, low, few))
low_witnesses kinds.Span d e v later next cells hash few = low_batch e.hash hash
low_witnesses kinds.Respan d e v later next cells hash few = low_batch e.hash hash
low_witnesses kind d e v later next cells hash few = elements-none

low_hash : (k : Kind) (d : Decoder) (e : Event) → d.unread.number < prime → AreElements e.hash → AreElements (hash_by k d e)
low_hash kinds.Ordinary d e number hash = elements-one d.unread.number number
low_hash kinds.Halt d e number hash = elements-none
low_hash kind d e number hash = hash

low_address : (blocks : List Open) → All IsLowBlock blocks → address_of blocks < prime
low_address [] h = lit< tt
low_address (block ∷ blocks) h = (All-head IsLowBlock block blocks h).address

-- what is known of the event, of the state behind it and of the decoder
pub record LowParts (d : Decoder) (e : Event) (v : Visible) (c : Core) (later : List Event) : Type 0 where
  pub before : e.before ≡ visible_of c
  pub formed : IsWellFormedCore c
  pub small : IsSmallCore c
  pub unread : IsLowUnread d.unread
  pub next : d.next ≤ 1 + 8 * most_cycles
  pub ha : d.ha ≤ 1 + 8 * most_cycles
  pub blocks : All IsLowBlock d.blocks
  pub keys : AreElements d.keys
  pub hash : AreElements e.hash
  pub word : AreElements e.word
  pub behind : AreElements v.cells
  pub clock : c.clock ≤ most_cycles
  pub few : length later ≤ most_cycles

pub low_line : (d : Decoder) (e : Event) (v : Visible) (c : Core) (later : List Event) → LowParts d e v c later → IsLowLine (line_of d e v later)
low_line d e v c later p =
    let cells : AreElements e.before.cells = rw p.before (elements-take 16 c.stack p.formed.cells) in
    record {
      clock = rw p.before (omega (arith, p.clock));
      fmp = rw p.before p.formed.fmp;
      context = rw p.before (omega (arith, p.clock, p.small.context));
      digest = rw p.before p.formed.digest.below;
      address = low_address d.blocks p.blocks;
      hash = low_hash (kind_of e.op) d e p.unread.number p.hash;
      left = omega (arith, p.unread.few);
      place = omega (arith, p.unread.place);
      cells = cells;
      depth = rw p.before (omega (arith, p.clock, p.small.depth));
      key = elements-index d.keys 0 p.keys;
      ha = omega (arith, p.ha);
      nesting = rw p.before (omega (arith, p.small.nesting));
      witnesses = low_witnesses (kind_of e.op) d e v later (omega (arith, p.next)) cells p.hash p.few;
      limbs = low_row_limbs e v cells p.behind p.word;
    }

pub next_low : (d : Decoder) (clock : ℕ) (events : List Event) → IsBounded d clock events → d.next ≤ 1 + 8 * most_cycles
next_low d clock events b = omega (arith, b.next, b.whole, few_respans events)

pub ha_low : (d : Decoder) (clock : ℕ) (events : List Event) → IsBounded d clock events → d.ha ≤ 1 + 8 * most_cycles
ha_low d clock events b = omega (arith, b.ha, b.whole)
