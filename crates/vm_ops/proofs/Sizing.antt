-- How many cells operations leave.
use Rattle.std.proofs.Common.{◌≡◌, ℕ, ◌+◌, ◌==◌, Bool, true, false, cond, List, [], ◌∷◌, ◌++◌, take, drop, reverse, length, refl, ap, ◌∙◌, arith}
use Rattle.std.proofs.lemmas.List.{length-append, length-drop, length-map, length-reverse, length-take-le}
use Rattle.vm_field.proofs.Elements.{length-filled_up}
use Rattle.vm_field.proofs.PermutationLemmas.{length-permuted}
use Rattle.vm_ops.specs.declared.op.Op.{Op}
use Rattle.vm_ops.specs.declared.op.Op.TheVariants as ops
use Rattle.vm_ops.specs.Moves.{computes_of, leaves_of, sources_of}
use Rattle.vm_ops.specs.Sizes.{IsSeenBy, depth_after}
use Rattle.vm_ops.specs.Step.{left_cells, stack_after}
use Rattle.vm_ops.specs.Values.{Seen, cell, computed}

length-cond : (b : Bool) (xs ys : List ℕ) (n : ℕ) → length xs ≡ n → length ys ≡ n → length (cond b xs ys) ≡ n
length-cond true xs ys n e f = e
length-cond false xs ys n e f = f

pub length-computed : (op : Op) (s : Seen) → IsSeenBy op s → length (computed op s) ≡ computes_of op
unfolding computed
length-computed ops.Caller s h = length-reverse s.digest ∙ h.digest
length-computed ops.AdvPopW s h = length-reverse s.advice ∙ h.advice
length-computed ops.AdvPop s h = h.advice
length-computed ops.MLoadW s h = length-reverse s.word ∙ h.word
length-computed ops.HPerm s h =
    let top : length (take 12 s.cells) ≡ 12 = length-take-le 12 s.cells (omega arith) in
    let turned : length (reverse (take 12 s.cells)) ≡ 12 = rw length-reverse top in
    rw (length-reverse, length-permuted s.constants (reverse (take 12 s.cells)) h.constants turned) refl
length-computed ops.CSwap s h = length-cond (cell s 0 == 0) (cell s 1 ∷ cell s 2 ∷ []) (cell s 2 ∷ cell s 1 ∷ []) 2 refl refl
length-computed ops.CSwapW s h =
    let below : length (drop 1 s.cells) ≡ 15 = rw (length-drop, h.cells) refl in
    let lower : length (drop 5 s.cells) ≡ 11 = rw (length-drop, h.cells) refl in
    let both : length (take 8 (drop 1 s.cells)) ≡ 8 = length-take-le 8 (drop 1 s.cells) (omega arith) in
    let second : length (take 4 (drop 5 s.cells)) ≡ 4 = length-take-le 4 (drop 5 s.cells) (omega arith) in
    let first : length (take 4 (drop 1 s.cells)) ≡ 4 = length-take-le 4 (drop 1 s.cells) (omega arith) in
    let crossed : length (take 4 (drop 5 s.cells) ++ take 4 (drop 1 s.cells)) ≡ 8 = rw (length-append, second, first) refl in
    length-cond (cell s 0 == 0) (take 8 (drop 1 s.cells)) (take 4 (drop 5 s.cells) ++ take 4 (drop 1 s.cells)) 8 both crossed
length-computed ops.Noop s h = refl
length-computed _ s h = refl

pub length-left_cells : (op : Op) (s : Seen) → IsSeenBy op s → length (left_cells op s) ≡ leaves_of op
unfolding left_cells
length-left_cells op s h = rw (length-append, length-map) (ap (λ n. n + length (sources_of op)) (length-computed op s h))

pub length-stack_after : (op : Op) (s : Seen) (stack : List ℕ) → IsSeenBy op s
    → length (stack_after op s stack) ≡ depth_after op (length stack)
unfolding stack_after
length-stack_after op s stack h =
    rw (length-filled_up, length-append, length-left_cells op s h, length-drop) refl
