-- The tasks, the decoder and the state agree behind each cycle as they do before it.
use Rattle.complete_rows.proofs.Words
use Words.{◌≡◌, ◌≢◌, ℕ, zero, suc, ◌+◌, ◌-◌, ◌/◌, ◌%◌, ◌<◌, ◌≤◌, max, Bool, true, false, ◌||◌, eqb, cond, List, [], ◌∷◌, ◌++◌, length, take, drop, slice_index}
use Words.{Some, refl, sym, ap, ◌∙◌, arith, lit<, length-drop, length-take, ne_eqb, prime, AreElements, filled_up, elements-drop, elements-index, elements-none}
use Words.{elements-take, length-filled_up, code_of, is_ordinary_op, push_item, Item, Op, Shift, Left, Stay, Right, IsBatch, positions_in_use, read_on, reading}
use Words.{Task, Within, is_op, Event, ReadsOn, AreOutside, IsLowUnread, Decoder, hidden_of, keys_after}
use Words.{keys_behind, advance, advance_by, Unread, nothing_unread, batch_begun, group_after, taken_from, kind_of}
use Words.ops
use Words.kinds
use Rattle.vm_ops.proofs.MoveLemmas.{ByOne}
use Rattle.complete_rows.specs.Agreement.{ReadsFirst}
use Rattle.vm_ops.proofs.CodeLemmas.{ordinary-kind}
use Rattle.complete_rows.proofs.ReadingLemmas.{Takes, pushes, goes, opens, ends, takes, reads_some, reads_room}

pub kind_is : (op : Op) → is_ordinary_op op ≡ true → kind_of op ≡ kinds.Ordinary
kind_is op e = ordinary-kind (kind_of op) e

pub ordinary_advance : (d : Decoder) (e : Event) (later : List Event) → is_ordinary_op e.op ≡ true
    → advance d e later ≡ advance_by kinds.Ordinary d e later
ordinary_advance d e later is = ap (λ k. advance_by k d e later) (kind_is e.op is)

-- ---- the batch

pub reads_as : (items : List Item) (u : Unread) → read_on u.positions (9 - u.place) u.number ≡ Some items → ReadsOn items u
reads_as [] u e = absurd (reads_some u.positions (9 - u.place) u.number e)
reads_as (item ∷ items) u e =
    let room : 9 - u.place ≢ 0 = reads_room u.positions (9 - u.place) u.number (item ∷ items) e in
    (e, omega (arith, room))

-- what an operation that comes next takes
pub takes_next : (item : Item) (items : List Item) (u : Unread) → ReadsOn (item ∷ items) u
    → Takes item items u.positions (8 - u.place) u.number
takes_next item items u r =
    let low : u.place ≤ 8 = r.1 in
    let room : 9 - u.place ≡ suc (8 - u.place) = omega (arith, low) in
    takes item items u.positions (8 - u.place) u.number (ap (λ n. read_on u.positions n u.number) (sym room) ∙ r.0)

pub is_push : (item : Item) (position : ℕ) → item ≡ push_item position → is_op item.op ops.Push ≡ true
is_push item position e = ap (λ x. is_op x.op ops.Push) e

pub apart_from_push : (op : Op) (digit : ℕ) → code_of op ≡ digit → digit < 69 → is_op op ops.Push ≡ false
apart_from_push op digit e low = let apart : eqb (code_of op) 69 ≡ false = rw e (below_push digit low) in apart
  where
    below_push : (n : ℕ) → n < 69 → eqb n 69 ≡ false
    below_push n h = ne_eqb n 69 (λ z. omega (arith, z, h))

goes_on : (items : List Item) (u : Unread) (n : ℕ) → u.number / 128 ≡ n → n ≢ 0 → u.place ≤ 8
    → read_on u.positions (8 - u.place) n ≡ Some items → ReadsOn items (group_after false n u.place u.positions)
goes_on items u zero is some low e = absurd (some refl)
goes_on items u (suc n) is some low e =
    let room : 8 - u.place ≡ 9 - (u.place + 1) = omega (arith, low) in
    reads_as items (record { number = suc n; place = u.place + 1; positions = u.positions })
    (ap (λ m. read_on u.positions m (suc n)) (sym room) ∙ e)

pub reads_next : (item : Item) (items : List Item) (u : Unread) → ReadsOn (item ∷ items) u
    → ReadsOn items (taken_from (is_op item.op ops.Push) u)
reads_next item items u r = go (takes_next item items u r)
  where
    go : Takes item items u.positions (8 - u.place) u.number → ReadsOn items (taken_from (is_op item.op ops.Push) u)
    go (pushes position later at is digit e) =
        let low : u.place ≤ 8 = r.1 in
        let room : 8 - u.place ≡ 9 - (u.place + 1) = omega (arith, low) in
        rw (is_push item position is, at) (reads_as items (record { number = u.number / 128; place = u.place + 1; positions = later })
        (ap (λ m. read_on later m (u.number / 128)) (sym room) ∙ e))
    go (goes low code some e) =
        rw (apart_from_push item.op (u.number % 128) code low) (goes_on items u (u.number / 128) refl some r.1 e)
    go (opens position later low code none at e) =
        rw (apart_from_push item.op (u.number % 128) code low, none, at)
        (reads_as items (record { number = position; place = 0; positions = later }) e)
    go (ends low code none at no_items) =
        rw (apart_from_push item.op (u.number % 128) code low, none, at, no_items) refl

pub reads_begun : (batch : List ℕ) (items : List Item) → reading batch ≡ Some items → ReadsOn items (batch_begun batch)
unfolding reading
reads_begun batch items e = reads_as items (batch_begun batch) e

pub low_nothing : IsLowUnread nothing_unread
low_nothing = record { number = lit< tt; place = omega arith; positions = elements-none; few = omega arith }

in_use_most : (batch : List ℕ) → length batch ≡ 8 → length (drop 1 (take (positions_in_use batch) batch)) ≤ 7
in_use_most batch size = omega (arith, length-drop 1 (take (positions_in_use batch) batch), length-take (positions_in_use batch) batch, size)

pub low_begun : (batch : List ℕ) → IsBatch batch → IsLowUnread (batch_begun batch)
low_begun batch h = record {
  number = elements-index batch 0 h.below;
  place = omega arith;
  positions = elements-drop 1 (take (positions_in_use batch) batch) (elements-take (positions_in_use batch) batch h.below);
  few = in_use_most batch h.size;
}

low_group : (b : Bool) (n place : ℕ) (positions : List ℕ) → n < prime → place ≤ 8 → AreElements positions → length positions ≤ 7
    → IsLowUnread (group_after b n place positions)
low_group true n place positions low at below few = record {
  number = low;
  place = omega (arith, at);
  positions = elements-drop 1 positions below;
  few = omega (arith, length-drop 1 positions, few);
}
low_group false zero place positions low at below few = record {
  number = elements-index positions 0 below;
  place = omega arith;
  positions = elements-drop 1 positions below;
  few = omega (arith, length-drop 1 positions, few);
}
low_group false (suc n) place positions low at below few = record {
  number = low;
  place = omega (arith, at);
  positions = below;
  few = few;
}

pub low_taken : (b : Bool) (u : Unread) → IsLowUnread u → u.place ≤ 8 → IsLowUnread (taken_from b u)
low_taken b u h at =
    let low : u.number < prime = h.number in
    low_group b (u.number / 128) u.place u.positions (omega (arith, low)) at h.positions h.few

-- ---- tasks outside of spans

pub reads_outside : (todo : List Task) (u : Unread) → AreOutside todo → u ≡ nothing_unread → ReadsFirst todo u
reads_outside [] u out e = e
reads_outside (Within items later digest ∷ todo) u out e = absurd out.0
reads_outside (task ∷ todo) u out e = (e, out.1)

-- ---- what an END shows

pub record HasFlags (hash : List ℕ) (i j k l : ℕ) : Type 0 where
  pub loop : slice_index hash 4 ≡ i
  pub span : slice_index hash 5 ≡ j
  pub call : slice_index hash 6 ≡ k
  pub syscall : slice_index hash 7 ≡ l

pub has_flags : (digest : List ℕ) (i j k l : ℕ) → length digest ≡ 4 → HasFlags (digest ++ i ∷ j ∷ k ∷ l ∷ []) i j k l
has_flags (a ∷ b ∷ c ∷ d ∷ []) i j k l size = record { loop = refl; span = refl; call = refl; syscall = refl }
has_flags digest i j k l size = absurd (omega (arith, size))

pub end_keys : (digest : List ℕ) (i j k l : ℕ) (d : Decoder) → length digest ≡ 4
    → keys_behind (digest ++ i ∷ j ∷ k ∷ l ∷ []) d ≡ cond (eqb i 1) (drop 1 d.keys) (cond (eqb k 1 || eqb l 1) (hidden_of d.blocks) d.keys)
end_keys digest i j k l d size = let has = has_flags digest i j k l size in rw (has.loop, has.call, has.syscall) refl

-- ---- the stack

pub by_one : (shift : Shift) (taken left : ℕ) → ByOne shift taken left → (clock : ℕ) (keys : List ℕ) (depth : ℕ) → length keys + 16 ≡ depth
    → taken ≤ 16 → (after : ℕ) → after ≡ max 16 (left + (depth - taken)) → length (keys_after shift clock keys) + 16 ≡ after
by_one Left taken left one clock keys depth is few after e = omega (arith, one, is, few, e, length-drop 1 keys)
by_one Stay taken left one clock keys depth is few after e = omega (arith, one, is, few, e)
by_one Right taken left one clock keys depth is few after e = omega (arith, one, is, few, e)

pub popped_depth : (stack keys : List ℕ) → length keys + 16 ≡ length stack → length (drop 1 keys) + 16 ≡ length (filled_up (drop 1 stack))
popped_depth stack keys is = omega (arith, is, length-filled_up (drop 1 stack), length-drop 1 stack, length-drop 1 keys)

pub taken_depth : (stack : List ℕ) → 16 ≤ length stack → 0 + 16 ≡ length (take 16 stack)
taken_depth stack deep = omega (arith, length-take 16 stack, deep)

pub hidden_depth : (stack keys : List ℕ) → length keys + 16 ≡ length stack → 16 ≤ length stack → length keys ≡ length (drop 16 stack)
hidden_depth stack keys is deep = omega (arith, is, deep, length-drop 16 stack)
