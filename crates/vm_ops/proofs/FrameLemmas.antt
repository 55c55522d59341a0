-- What a step keeps of a state, and how it moves the stack.
use Rattle.std.proofs.Common.{◌≡◌, ◌≢◌, ℕ, ◌+◌, ◌-◌, ◌<◌, ◌≤◌, max, ◌⊎◌, inl, inr, false, List, [], ◌∷◌, ◌++◌, map, drop, length, replicate, None, Ok, slice_index, refl, ap, sym, ◌∙◌, arith, append-nil}
use Rattle.std.proofs.lemmas.List.{drop-drop, drop_all, drop_at, drop_more, get_or_append_left, get_or-append_right, get_or-drop, get_or-map, get_or-take, get_or_past}
use Rattle.std.proofs.lemmas.List.Elements.{All-get_or}
use Rattle.vm_field.proofs.Elements.{index-zeros, length-filled_up}
use Rattle.vm_field.specs.Limits.{number_of_constants}
use Rattle.vm_field.specs.Machine.{State, filled_up, IsWellFormed}
use Rattle.vm_ops.proofs.MoveLemmas.{ByOne, leaves_of-below, shift_of-by_one, sources_of-visible, takes_of-below}
use Rattle.vm_ops.proofs.Sizing.{length-computed, length-left_cells}
use Rattle.vm_ops.proofs.StepLemmas.{seen_at-sized, stepped}
use Rattle.vm_ops.specs.Codes.{writes_memory}
use Rattle.vm_ops.specs.declared.item.Item.{Item}
use Rattle.vm_ops.specs.declared.op.Op.{Op}
use Rattle.vm_ops.specs.declared.op.Op.TheVariants as ops
use Rattle.vm_ops.specs.declared.op.Shift.{Shift}
use Rattle.vm_ops.specs.declared.op.Shift.TheVariants.{Left, Stay, Right}
use Rattle.vm_ops.specs.Moves.{computes_of, leaves_of, shift_of, sources_of, takes_of}
use Rattle.vm_ops.specs.Sizes.{IsSeenBy}
use Rattle.vm_ops.specs.Step.{left_cells, memory_with, stack_after, step}
use Rattle.vm_ops.specs.Stepping.{ShiftedBelow, IsSameCall, seen_at}
use Rattle.vm_ops.specs.Values.{Seen, advice_of, computed, fmp_after, written}

pub step-same_call : (constants : List ℕ) (item : Item) (s t : State) → step constants item s ≡ Ok t → IsSameCall s.core t.core
step-same_call constants item s t e =
    let done = stepped constants item s t e in record {
      context = ap (λ (u : State). u.core.context) done.is;
      in_syscall = ap (λ (u : State). u.core.in_syscall) done.is;
      digest = ap (λ (u : State). u.core.digest) done.is;
      nesting = ap (λ (u : State). u.core.nesting) done.is;
    }

pub step-tape : (constants : List ℕ) (item : Item) (s t : State) → step constants item s ≡ Ok t → t.tape ≡ drop (advice_of item.op) s.tape
step-tape constants item s t e = ap (λ (u : State). u.tape) (stepped constants item s t e).is

pub fmp_after-same : (op : Op) (s : Seen) → op ≢ ops.FmpUpdate → fmp_after op s ≡ s.fmp
fmp_after-same ops.FmpUpdate s other = absurd (other refl)
fmp_after-same ops.Noop s other = refl
fmp_after-same _ s other = refl

pub step-fmp : (constants : List ℕ) (item : Item) (s t : State) → item.op ≢ ops.FmpUpdate → step constants item s ≡ Ok t
    → t.core.fmp ≡ s.core.fmp
step-fmp constants item s t other e =
    ap (λ (u : State). u.core.fmp) (stepped constants item s t e).is ∙ fmp_after-same item.op (seen_at constants item s) other

pub written-none : (op : Op) (s : Seen) → writes_memory op ≡ false → written op s ≡ None
written-none ops.MStore s e = cc
written-none ops.MStoreW s e = cc
written-none ops.Noop s e = refl
written-none _ s e = refl

pub step-memory : (constants : List ℕ) (item : Item) (s t : State) → writes_memory item.op ≡ false → step constants item s ≡ Ok t
    → t.core.memory ≡ s.core.memory
step-memory constants item s t quiet e =
    ap (λ (u : State). u.core.memory) (stepped constants item s t e).is
    ∙ ap (memory_with s.core.memory s.core.context (slice_index s.core.stack 0)) (written-none item.op (seen_at constants item s) quiet)

-- ---- cells of the stack; past its end there is 0

pub index-filled_up : (cells : List ℕ) (j : ℕ) → slice_index (filled_up cells) j ≡ slice_index cells j
index-filled_up cells j = go within
  where
    within : (j < length cells) ⊎ (length cells ≤ j)
    within = grind arith

    go : (j < length cells) ⊎ (length cells ≤ j) → slice_index (filled_up cells) j ≡ slice_index cells j
    go (inl h) = get_or_append_left cells (replicate (16 - length cells) 0) 0 j h
    go (inr h) =
        get_or-append_right cells (replicate (16 - length cells) 0) (length cells) j 0 refl h
        ∙ index-zeros (16 - length cells) (j - length cells) ∙ sym (get_or_past cells j 0 h)

-- each cell that the operation does not leave is one that it does not take
pub index-below : (op : Op) (s : Seen) (stack : List ℕ) (j : ℕ) → IsSeenBy op s → leaves_of op ≤ j
    → slice_index (stack_after op s stack) j ≡ slice_index stack (takes_of op + (j - leaves_of op))
unfolding stack_after
index-below op s stack j h past =
    index-filled_up (left_cells op s ++ drop (takes_of op) stack) j
    ∙ get_or-append_right (left_cells op s) (drop (takes_of op) stack) (leaves_of op) j 0 (length-left_cells op s h) past
    ∙ get_or-drop (takes_of op) stack (j - leaves_of op) 0

-- and the others are left by it
pub index-left : (op : Op) (s : Seen) (stack : List ℕ) (j : ℕ) → IsSeenBy op s → j < leaves_of op
    → slice_index (stack_after op s stack) j ≡ slice_index (left_cells op s) j
unfolding stack_after
index-left op s stack j h within =
    let count = length-left_cells op s h in
    index-filled_up (left_cells op s ++ drop (takes_of op) stack) j
    ∙ get_or_append_left (left_cells op s) (drop (takes_of op) stack) 0 j (omega arith)

-- a pure move leaves copies of cells
moved : (values cells : List ℕ) (sources : List ℕ) (j : ℕ) → length values ≡ 0 → j < length sources
    → slice_index (values ++ map (slice_index cells) sources) j ≡ slice_index cells (slice_index sources j)
moved [] cells sources j none within = get_or-map (slice_index cells) sources j 0 0 within
moved (v ∷ values) cells sources j none within = absurd (omega arith)

pub index-moved : (op : Op) (s : Seen) (j : ℕ) → IsSeenBy op s → computes_of op ≡ 0 → j < leaves_of op
    → slice_index (left_cells op s) j ≡ slice_index s.cells (slice_index (sources_of op) j)
unfolding left_cells
index-moved op s j h none within =
    moved (computed op s) s.cells (sources_of op) j (length-computed op s h ∙ none) (omega arith)

-- cells that are deep enough are filled up with nothing
pub filled_up-deep : (cells : List ℕ) → 16 ≤ length cells → filled_up cells ≡ cells
filled_up-deep cells enough = let none : 16 - length cells ≡ 0 = omega arith in rw none (append-nil cells)

pub drop-filled_up : (cells : List ℕ) → drop 16 (filled_up cells) ≡ drop 16 cells
drop-filled_up cells = go deep
  where
    deep : (16 ≤ length cells) ⊎ (length cells < 16)
    deep = grind arith

    go : (16 ≤ length cells) ⊎ (length cells < 16) → drop 16 (filled_up cells) ≡ drop 16 cells
    go (inl h) = ap (drop 16) (filled_up-deep cells h)
    go (inr h) =
        let size : length (filled_up cells) ≡ max 16 (length cells) = length-filled_up cells in
        let short : length (filled_up cells) ≤ 16 = omega arith in
        drop_all 16 (filled_up cells) short ∙ sym (drop_all 16 cells (omega arith))

drop_behind : (xs ys : List ℕ) (n k : ℕ) → length xs ≡ n → n ≤ k → drop k (xs ++ ys) ≡ drop (k - n) ys
drop_behind xs ys n k count past =
    let apart : n + (k - n) ≡ k = omega arith in
    ap (λ m. drop m (xs ++ ys)) (sym apart) ∙ sym (drop-drop (k - n) n (xs ++ ys)) ∙ ap (drop (k - n)) (drop_at xs ys n count)

pub drop-stack_after : (op : Op) (s : Seen) (stack : List ℕ) → IsSeenBy op s
    → drop 16 (stack_after op s stack) ≡ drop (takes_of op + (16 - leaves_of op)) stack
unfolding stack_after
drop-stack_after op s stack h =
    drop-filled_up (left_cells op s ++ drop (takes_of op) stack)
    ∙ drop_behind (left_cells op s) (drop (takes_of op) stack) (leaves_of op) 16 (length-left_cells op s h) (leaves_of-below op)
    ∙ drop-drop (16 - leaves_of op) (takes_of op) stack

below_by : (shift : Shift) (taken left : ℕ) (stack after : List ℕ) → ByOne shift taken left → taken ≤ 16 → left ≤ 16 → 16 ≤ length stack
    → drop 16 after ≡ drop (taken + (16 - left)) stack
    → ((j : ℕ) → left ≤ j → slice_index after j ≡ slice_index stack (taken + (j - left)))
    → ShiftedBelow shift stack after
below_by Right taken left stack after by less few deep rest cells =
    let at : taken + (16 - left) ≡ 15 = omega arith in rest ∙ ap (λ n. drop n stack) at ∙ drop_more stack 15 0 (omega arith)
below_by Stay taken left stack after by less few deep rest cells =
    let at : taken + (16 - left) ≡ 16 = omega arith in rest ∙ ap (λ n. drop n stack) at
below_by Left taken left stack after by less few deep rest cells =
    let at : taken + (16 - left) ≡ 17 = omega arith in
    let first : taken + (15 - left) ≡ 16 = omega arith in
    (rest ∙ ap (λ n. drop n stack) at, cells 15 (omega arith) ∙ ap (slice_index stack) first ∙ sym (get_or-drop 16 stack 0 0))

-- ---- of a step

pub step-below : (constants : List ℕ) (item : Item) (s t : State) → length constants ≡ number_of_constants → IsWellFormed s
    → step constants item s ≡ Ok t → ShiftedBelow (shift_of item.op) s.core.stack t.core.stack
step-below constants item s t f h e =
    let done = stepped constants item s t e in
    let sized = seen_at-sized constants item s f h done.enough in
    let stack = ap (λ (u : State). u.core.stack) done.is in
    below_by (shift_of item.op) (takes_of item.op) (leaves_of item.op) s.core.stack t.core.stack (shift_of-by_one item.op)
    (takes_of-below item.op) (leaves_of-below item.op) h.core.deep
    (ap (drop 16) stack ∙ drop-stack_after item.op (seen_at constants item s) s.core.stack sized)
    (λ j past. ap (λ xs. slice_index xs j) stack ∙ index-below item.op (seen_at constants item s) s.core.stack j sized past)

pub step-untouched : (constants : List ℕ) (item : Item) (s t : State) (j : ℕ) → length constants ≡ number_of_constants → IsWellFormed s
    → step constants item s ≡ Ok t → leaves_of item.op ≤ j
    → slice_index t.core.stack j ≡ slice_index s.core.stack (takes_of item.op + (j - leaves_of item.op))
step-untouched constants item s t j f h e past =
    let done = stepped constants item s t e in
    let sized = seen_at-sized constants item s f h done.enough in
    ap (λ (u : State). slice_index u.core.stack j) done.is ∙ index-below item.op (seen_at constants item s) s.core.stack j sized past

pub step-moved : (constants : List ℕ) (item : Item) (s t : State) (j : ℕ) → length constants ≡ number_of_constants → IsWellFormed s
    → step constants item s ≡ Ok t → computes_of item.op ≡ 0 → j < leaves_of item.op
    → slice_index t.core.stack j ≡ slice_index s.core.stack (slice_index (sources_of item.op) j)
step-moved constants item s t j f h e none within =
    let done = stepped constants item s t e in
    let sized = seen_at-sized constants item s f h done.enough in
    let visible : slice_index (sources_of item.op) j < 16 =
    All-get_or (λ i. i < 16) (sources_of item.op) j 0 (omega arith) (sources_of-visible item.op) in
    ap (λ (u : State). slice_index u.core.stack j) done.is ∙ index-left item.op (seen_at constants item s) s.core.stack j sized within
    ∙ index-moved item.op (seen_at constants item s) j sized none within
    ∙ get_or-take 16 s.core.stack (slice_index (sources_of item.op) j) 0 visible
