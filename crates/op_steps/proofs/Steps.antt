-- The machine's step, from the cells that the operation leaves or its trap.
use Rattle.std.proofs.Common.{◌≡◌, ℕ, ◌+◌, ◌^◌, ◌<◌, ◌≤◌, ◌⊎◌, inl, inr, Bool, true, false, cond, List, [], ◌∷◌, ◌++◌, length, take, drop, refl, ap, sym, subst, ◌∙◌, nat_lt, slice_index, map, reverse, arith}
use Rattle.std.proofs.lemmas.Bool.{ltb-true, ltb-false}
use Rattle.std.proofs.lemmas.Bool.Decides.{nat_tests}
use Rattle.std.proofs.lemmas.List.{append-nil}
use Rattle.std.specs.FinMap.{insert}
use Rattle.std.specs.Prelude.{Option, Some, None, Result, Ok, Err}
use Rattle.vm_field.specs.Machine.{State, filled_up, word_at}
use Rattle.vm_field.specs.Permutation.{permuted}
use Rattle.vm_ops.specs.declared.cause.Cause.{Cause}
use Rattle.vm_ops.specs.declared.cause.Cause.TheVariants.{AdviceEmpty, AddressRange}
use Rattle.vm_ops.specs.declared.item.Item.{Item}
use Rattle.vm_ops.specs.declared.op.Op.{Op}
use Rattle.vm_ops.specs.declared.op.Op.TheVariants as ops
use Rattle.vm_ops.specs.declared.op.Shift.TheVariants.{Right}
use Rattle.vm_ops.specs.Codes.{writes_memory}
use Rattle.vm_ops.specs.Moves.{takes_of, leaves_of, shift_of, sources_of}
use Rattle.vm_ops.specs.Step.{performed, step, left_cells, stack_after, seen}
use Rattle.vm_ops.specs.Stepping.{seen_at}
use Rattle.vm_ops.specs.Values.{Seen, advice_of, trap_of, written, fmp_after, computed, is_u32, unless}
use Rattle.vm_ops.proofs.FrameLemmas.{written-none}
use Rattle.vm_ops.proofs.StepLemmas.{step-goes, step-traps}
use Rattle.op_steps.proofs.Places.{placed, grown}
use Rattle.op_steps.specs.Outcomes.{cells_unless, outcome, outcome_at, is_single, is_move}
use Rattle.op_steps.specs.Places.{shifted}
use Rattle.op_steps.specs.Steps.{IsQuiet}

-- what an outcome says of the two tests of a step, where the tape has so many elements and the operation takes so many
abbrev Told : ℕ → ℕ → Option Cause → List ℕ → Result (List ℕ) Cause → Type 0
Told have n trap cells (Ok left) = (n ≤ have) × (trap ≡ None) × (cells ≡ left)
Told have n trap cells (Err cause) = ((have < n) × (cause ≡ AdviceEmpty)) ⊎ ((n ≤ have) × (trap ≡ Some cause))

told_by : (short : Bool) (have n : ℕ) (trap : Option Cause) (cells : List ℕ) → nat_lt have n ≡ short
    → Told have n trap cells (cond short (Err AdviceEmpty) (cells_unless trap cells))
told_by true have n trap cells e = inl (ltb-true have n e, refl)
told_by false have n None cells e = (ltb-false have n e, refl, refl)
told_by false have n (Some cause) cells e = inr (ltb-false have n e, refl)

abbrev ToldAt : List ℕ → Item → State → Result (List ℕ) Cause → Type 0
ToldAt constants item s r =
    Told (length s.tape) (advice_of item.op) (trap_of item.op (seen_at constants item s)) (left_cells item.op (seen_at constants item s)) r

told : (constants : List ℕ) (item : Item) (s : State) → ToldAt constants item s (outcome_at constants item s)
unfolding outcome_at outcome
told constants item s = told_by (nat_lt (length s.tape) (advice_of item.op)) (length s.tape) (advice_of item.op) _ _ refl

-- the operation's trap is the step's
pub trapped : (constants : List ℕ) (item : Item) (s : State) (cause : Cause) → outcome_at constants item s ≡ Err cause
    → step constants item s ≡ Err cause
trapped constants item s cause e =
    step-traps constants item s cause (record { why = subst (ToldAt constants item s) e (told constants item s) })

-- the state behind a step, where the operation leaves these cells
abbrev settled : List ℕ → Item → List ℕ → List ℕ → State → State
settled constants item left stack s = record {
  core = record (performed item.op (seen_at constants item s) s.core) { clock = s.core.clock + 1; stack = stack };
  tape = drop (advice_of item.op) s.tape;
}

stepped : (constants : List ℕ) (item : Item) (s : State) (left : List ℕ) → outcome_at constants item s ≡ Ok left
    → step constants item s ≡ Ok (settled constants item left (filled_up (left ++ drop (takes_of item.op) s.core.stack)) s)
unfolding stack_after
stepped constants item s left e =
    let goes : ToldAt constants item s (Ok left) = subst (ToldAt constants item s) e (told constants item s) in
    step-goes constants item s _ (record {
      enough = goes.0;
      free = goes.1;
      is = sym (ap (λ cells. settled constants item left (filled_up (cells ++ drop (takes_of item.op) s.core.stack)) s) goes.2);
    })

writes_nothing : (op : Op) (s : Seen) → shift_of op ≡ Right → (written op s ≡ None) × (fmp_after op s ≡ s.fmp)
writes_nothing ops.MStore s e = cc
writes_nothing ops.MStoreW s e = cc
writes_nothing ops.FmpUpdate s e = cc
writes_nothing ops.Noop s e = (refl, refl)
writes_nothing _ s e = (refl, refl)

-- the step of a quiet operation
pub stepped_quietly : (constants : List ℕ) (item : Item) (s : State) (left : List ℕ) (fmp : ℕ) → IsQuiet item.op
    → outcome_at constants item s ≡ Ok left
    → length left ≡ leaves_of item.op → 16 ≤ length s.core.stack → fmp ≡ fmp_after item.op (seen_at constants item s)
    → step constants item s ≡ Ok (record {
      core = record s.core {
        clock = s.core.clock + 1;
        fmp = fmp;
        stack = left ++ drop (length left) (shifted (shift_of item.op) s.core.stack);
      };
      tape = drop (advice_of item.op) s.tape;
    })
stepped_quietly constants item s left fmp quiet e count enough pointer =
    rw (pointer, placed item.op left s.core.stack quiet.shift count enough)
    (rw (written-none item.op (seen_at constants item s) quiet.memory) at (stepped constants item s left e))

-- the step of an operation that shifts to the right
pub stepped_growing : (constants : List ℕ) (item : Item) (s : State) (left : List ℕ) (v : ℕ) → shift_of item.op ≡ Right
    → outcome_at constants item s ≡ Ok left
    → length left ≡ leaves_of item.op → 16 ≤ length s.core.stack
    → step constants item s ≡ Ok (record {
      core = record s.core { clock = s.core.clock + 1; stack = left ++ drop (length left) (v ∷ s.core.stack) };
      tape = drop (advice_of item.op) s.tape;
    })
stepped_growing constants item s left v grows e count enough =
    rw (grown item.op v left s.core.stack grows count enough)
    (let none = writes_nothing item.op (seen_at constants item s) grows in rw (none.0, none.1) at (stepped constants item s left e))

first_seen : (stack : List ℕ) → slice_index (take 16 stack) 0 ≡ slice_index stack 0
first_seen [] = refl
first_seen (x ∷ xs) = refl

not_short : (n : ℕ) → nat_lt n 0 ≡ false
not_short n = grind (arith, nat_tests)

small : (a : ℕ) → a < 2 ^ 32 → is_u32 a ≡ true
small a h = grind (arith, nat_tests)

not_small : (a : ℕ) → 2 ^ 32 ≤ a → is_u32 a ≡ false
not_small a h = grind (arith, nat_tests)

-- what an operation leaves alone that leaves one cell
single_keeps : (op : Op) (s : Seen) → is_single op ≡ true → (advice_of op ≡ 0) × (leaves_of op ≡ 1) × (fmp_after op s ≡ s.fmp)
single_keeps ops.Noop s e = cc
single_keeps ops.Eqz s e = (refl, refl, refl)
single_keeps ops.Neg s e = (refl, refl, refl)
single_keeps ops.Incr s e = (refl, refl, refl)
single_keeps ops.Eq s e = (refl, refl, refl)
single_keeps ops.Add s e = (refl, refl, refl)
single_keeps ops.Mul s e = (refl, refl, refl)
single_keeps ops.Pad s e = (refl, refl, refl)
single_keeps ops.Push s e = (refl, refl, refl)
single_keeps ops.Dup0 s e = (refl, refl, refl)
single_keeps ops.Dup1 s e = (refl, refl, refl)
single_keeps ops.Dup2 s e = (refl, refl, refl)
single_keeps ops.Dup3 s e = (refl, refl, refl)
single_keeps ops.Dup4 s e = (refl, refl, refl)
single_keeps ops.Dup5 s e = (refl, refl, refl)
single_keeps ops.Dup6 s e = (refl, refl, refl)
single_keeps ops.Dup7 s e = (refl, refl, refl)
single_keeps ops.Dup9 s e = (refl, refl, refl)
single_keeps ops.Dup11 s e = (refl, refl, refl)
single_keeps ops.Dup13 s e = (refl, refl, refl)
single_keeps ops.Dup15 s e = (refl, refl, refl)
single_keeps _ s e = cc

-- a move leaves the cells that it moves
move_keeps : (op : Op) (s : Seen) → is_move op ≡ true
    → (advice_of op ≡ 0) × (outcome op s ≡ Ok (map (slice_index s.cells) (sources_of op))) × (fmp_after op s ≡ s.fmp)
    × (leaves_of op ≡ length (sources_of op))
unfolding outcome left_cells computed trap_of
move_keeps ops.Noop s e = (refl, refl, refl, refl)
move_keeps ops.Swap s e = (refl, refl, refl, refl)
move_keeps ops.MovUp2 s e = (refl, refl, refl, refl)
move_keeps ops.MovDn2 s e = (refl, refl, refl, refl)
move_keeps ops.MovUp3 s e = (refl, refl, refl, refl)
move_keeps ops.MovDn3 s e = (refl, refl, refl, refl)
move_keeps ops.MovUp4 s e = (refl, refl, refl, refl)
move_keeps ops.MovDn4 s e = (refl, refl, refl, refl)
move_keeps ops.MovUp5 s e = (refl, refl, refl, refl)
move_keeps ops.MovDn5 s e = (refl, refl, refl, refl)
move_keeps ops.MovUp6 s e = (refl, refl, refl, refl)
move_keeps ops.MovDn6 s e = (refl, refl, refl, refl)
move_keeps ops.MovUp7 s e = (refl, refl, refl, refl)
move_keeps ops.MovDn7 s e = (refl, refl, refl, refl)
move_keeps ops.MovUp8 s e = (refl, refl, refl, refl)
move_keeps ops.MovDn8 s e = (refl, refl, refl, refl)
move_keeps ops.SwapW s e = (refl, refl, refl, refl)
move_keeps ops.SwapW2 s e = (refl, refl, refl, refl)
move_keeps ops.SwapW3 s e = (refl, refl, refl, refl)
move_keeps ops.SwapDW s e = (refl, refl, refl, refl)
move_keeps ops.Drop s e = (refl, refl, refl, refl)
move_keeps _ s e = cc

long_enough : (short : Bool) (r : Result (List ℕ) Cause) → short ≡ false → cond short (Err AdviceEmpty) r ≡ r
long_enough false r e = refl
long_enough true r e = cc

-- an operation that takes no advice leaves what it leaves with a tape that is long enough
without_advice : (constants : List ℕ) (item : Item) (s : State) → advice_of item.op ≡ 0
    → outcome_at constants item s ≡ outcome item.op (seen_at constants item s)
unfolding outcome_at
without_advice constants item s none =
    long_enough (nat_lt (length s.tape) (advice_of item.op)) (outcome item.op (seen_at constants item s))
    (ap (nat_lt (length s.tape)) none ∙ not_short (length s.tape))

-- the step of a quiet operation that leaves one cell
pub single_quietly : (constants : List ℕ) (item : Item) (s : State) (cell : ℕ) → is_single item.op ≡ true → IsQuiet item.op
    → outcome item.op (seen_at constants item s) ≡ Ok (cell ∷ []) → 16 ≤ length s.core.stack
    → step constants item s ≡ Ok (record {
      core = record s.core {
        clock = s.core.clock + 1;
        stack = (cell ∷ []) ++ drop 1 (shifted (shift_of item.op) s.core.stack);
      };
      tape = drop (advice_of item.op) s.tape;
    })
single_quietly constants item s cell single quiet e enough =
    let keeps = single_keeps item.op (seen_at constants item s) single in
    stepped_quietly constants item s (cell ∷ []) s.core.fmp quiet (without_advice constants item s keeps.0 ∙ e) (sym keeps.1) enough (sym keeps.2)

hperm_is_quiet : IsQuiet ops.HPerm
hperm_is_quiet = record { shift = λ e. cc; memory = refl }

hperm_leaves : (constants : List ℕ) (imm : Option ℕ) (s : State) (left : List ℕ)
    → left ≡ reverse (permuted constants (reverse (take 12 (take 16 s.core.stack))))
    → outcome_at constants (record { op = ops.HPerm; imm = imm }) s ≡ Ok left
unfolding outcome left_cells computed trap_of
hperm_leaves constants imm s left is =
    without_advice constants (record { op = ops.HPerm; imm = imm }) s refl
    ∙ ap (λ cells. Ok cells) (append-nil (reverse (permuted constants (reverse (take 12 (take 16 s.core.stack))))) ∙ sym is)

-- the step of HPERM
pub hperm_quietly : (constants : List ℕ) (item : Item) (s : State) (left : List ℕ) → item.op ≡ ops.HPerm
    → left ≡ reverse (permuted constants (reverse (take 12 (take 16 s.core.stack)))) → length left ≡ 12 → 16 ≤ length s.core.stack
    → step constants item s ≡ Ok (record {
      core = record s.core { clock = s.core.clock + 1; stack = left ++ drop (length left) s.core.stack };
      tape = s.tape;
    })
hperm_quietly constants item s left is are count enough =
    subst (λ op. step constants (record { op = op; imm = item.imm }) s ≡ Ok (record {
      core = record s.core { clock = s.core.clock + 1; stack = left ++ drop (length left) s.core.stack };
      tape = s.tape;
    })) (sym is)
    (stepped_quietly constants (record { op = ops.HPerm; imm = item.imm }) s left s.core.fmp hperm_is_quiet
    (hperm_leaves constants item.imm s left are) count enough refl)

-- the step of one that pushes a cell
pub single_growing : (constants : List ℕ) (item : Item) (s : State) (cell : ℕ) → is_single item.op ≡ true → shift_of item.op ≡ Right
    → outcome item.op (seen_at constants item s) ≡ Ok (cell ∷ []) → 16 ≤ length s.core.stack
    → step constants item s ≡ Ok (record { core = record s.core { clock = s.core.clock + 1; stack = cell ∷ s.core.stack }; tape = s.tape })
single_growing constants item s cell single grows e enough =
    let keeps = single_keeps item.op (seen_at constants item s) single in
    stepped_growing constants item s (cell ∷ []) cell grows (without_advice constants item s keeps.0 ∙ e) (sym keeps.1) enough
    ∙ ap (λ n. Ok (record { core = record s.core { clock = s.core.clock + 1; stack = cell ∷ s.core.stack }; tape = drop n s.tape })) keeps.0

-- the step of a move
pub moved_quietly : (constants : List ℕ) (item : Item) (s : State) → is_move item.op ≡ true → IsQuiet item.op → 16 ≤ length s.core.stack
    → (left : List ℕ) → left ≡ map (slice_index (take 16 s.core.stack)) (sources_of item.op) → length left ≡ length (sources_of item.op)
    → step constants item s ≡ Ok (record {
      core = record s.core {
        clock = s.core.clock + 1;
        stack = left ++ drop (length left) (shifted (shift_of item.op) s.core.stack);
      };
      tape = drop (advice_of item.op) s.tape;
    })
moved_quietly constants item s move quiet enough left is count =
    let keeps = move_keeps item.op (seen_at constants item s) move in
    stepped_quietly constants item s left s.core.fmp quiet (without_advice constants item s keeps.0 ∙ keeps.1 ∙ ap (λ cells. Ok cells) (sym is))
    (count ∙ sym keeps.3) enough (sym keeps.2)

outside_at : (op : Op) (imm : Option ℕ) (constants : List ℕ) (s : State) → writes_memory op ≡ true
    → is_u32 (slice_index (take 16 s.core.stack) 0) ≡ false
    → step constants (record { op = op; imm = imm }) s ≡ Err AddressRange
unfolding trap_of
outside_at ops.MStore imm constants s writes outside =
    step-traps constants (record { op = ops.MStore; imm = imm }) s AddressRange
    (record { why = inr (omega arith, ap (λ test. unless test AddressRange) outside) })
outside_at ops.MStoreW imm constants s writes outside =
    step-traps constants (record { op = ops.MStoreW; imm = imm }) s AddressRange
    (record { why = inr (omega arith, ap (λ test. unless test AddressRange) outside) })
outside_at ops.Noop imm constants s writes outside = cc
outside_at _ imm constants s writes outside = cc

-- a write outside the addresses
pub stored_outside : (constants : List ℕ) (item : Item) (s : State) → writes_memory item.op ≡ true → 2 ^ 32 ≤ slice_index s.core.stack 0
    → step constants item s ≡ Err AddressRange
stored_outside constants item s writes outside =
    outside_at item.op item.imm constants s writes (rw (first_seen s.core.stack) (not_small (slice_index s.core.stack 0) outside))

-- the state behind a write of a word
abbrev pub stored_state : List ℕ → State → State
stored_state word s = record {
  core = record s.core {
    clock = s.core.clock + 1;
    stack = filled_up (drop 1 s.core.stack);
    memory = insert s.core.memory (s.core.context, slice_index s.core.stack 0) word;
  };
  tape = s.tape;
}

inside_at : (op : Op) (imm : Option ℕ) (constants : List ℕ) (s : State) → writes_memory op ≡ true
    → is_u32 (slice_index (take 16 s.core.stack) 0) ≡ true
    → (word : List ℕ) → written op (seen constants (record { op = op; imm = imm }) [] s.core) ≡ Some word
    → step constants (record { op = op; imm = imm }) s ≡ Ok (stored_state word s)
unfolding trap_of stack_after left_cells computed
inside_at ops.MStore imm constants s writes inside word is =
    let e : word ≡ slice_index (take 16 s.core.stack) 1 ∷ drop 1 (word_at s.core.memory s.core.context (slice_index s.core.stack 0)) = cc in
    step-goes constants (record { op = ops.MStore; imm = imm }) s (stored_state word s)
    (record { enough = omega arith; free = ap (λ test. unless test AddressRange) inside; is = rw e refl })
inside_at ops.MStoreW imm constants s writes inside word is =
    let e : word ≡ slice_index (take 16 s.core.stack) 4 ∷ slice_index (take 16 s.core.stack) 3 ∷ slice_index (take 16 s.core.stack)
    2 ∷ slice_index (take 16 s.core.stack) 1 ∷ [] = cc in
    step-goes constants (record { op = ops.MStoreW; imm = imm }) s (stored_state word s)
    (record { enough = omega arith; free = ap (λ test. unless test AddressRange) inside; is = rw e refl })
inside_at ops.Noop imm constants s writes inside word is = cc
inside_at _ imm constants s writes inside word is = cc

-- a write of a word
pub stored : (constants : List ℕ) (item : Item) (s : State) (word : List ℕ) → writes_memory item.op ≡ true → slice_index s.core.stack 0 < 2 ^ 32
    → Some word ≡ written item.op (seen constants item [] s.core) → step constants item s ≡ Ok (stored_state word s)
stored constants item s word writes inside is =
    inside_at item.op item.imm constants s writes (rw (first_seen s.core.stack) (small (slice_index s.core.stack 0) inside)) word (sym is)
