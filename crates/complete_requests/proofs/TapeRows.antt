-- The row behind an operation shows the elements that the operation takes of the tape.
use Rattle.complete_rows.proofs.Words
use Words.{◌≡◌, ℕ, ◌≤◌, List, [], ◌∷◌, length, take, refl, ◌∙◌, arith, lit<, number_of_constants, State, left_cells, seen_at, Seen, computed, Item, Op, s, Mark}
use Words.{Do, advice_taken, op_of_mark, IsMoment}
use Words.ops
use Rattle.vm_ops.specs.Values.{advice_of}
use Rattle.air_kit.specs.RowStates.{taken_by}
use Rattle.complete_requests.proofs.Tops.{ShowsTops, moment_tops}

-- ADVPOP leaves one element on top, and ADVPOPW four with the last one on top
one_taken : (sn : Seen) (tape y : List ℕ) → sn.advice ≡ take 1 tape → 1 ≤ length tape → ShowsTops ops.AdvPop sn y → s y 0 ∷ [] ≡ take 1 tape
unfolding left_cells computed
one_taken sn [] y is enough tops = absurd (omega (arith, enough))
one_taken sn (a ∷ tape) y is enough tops =
    let top : s y 0 ≡ a = tops 0 (lit< tt) ∙ rw is refl in
    rw top refl

four_taken : (sn : Seen) (tape y : List ℕ) → sn.advice ≡ take 4 tape → 4 ≤ length tape → ShowsTops ops.AdvPopW sn y
    → s y 3 ∷ s y 2 ∷ s y 1 ∷ s y 0 ∷ [] ≡ take 4 tape
unfolding left_cells computed
four_taken sn (a ∷ b ∷ c ∷ d ∷ tape) y is enough tops =
    let first : s y 0 ≡ d = tops 0 (lit< tt) ∙ rw is refl in
    let second : s y 1 ≡ c = tops 1 (lit< tt) ∙ rw is refl in
    let third : s y 2 ≡ b = tops 2 (lit< tt) ∙ rw is refl in
    let fourth : s y 3 ≡ a = tops 3 (lit< tt) ∙ rw is refl in
    rw (first, second, third, fourth) refl
four_taken sn tape y is enough tops = absurd (omega (arith, enough))

op_takes : (op : Op) (sn : Seen) (tape y : List ℕ) → sn.advice ≡ take (advice_of op) tape → advice_of op ≤ length tape → ShowsTops op sn y
    → taken_by op y ≡ take (advice_of op) tape
op_takes ops.AdvPop sn tape y is enough tops = one_taken sn tape y is enough tops
op_takes ops.AdvPopW sn tape y is enough tops = four_taken sn tape y is enough tops
op_takes op sn tape y is enough tops = refl

mark_takes : (constants : List ℕ) (mark : Mark) (before : State) (y : List ℕ) → advice_taken mark ≤ length before.tape
    → ((item : Item) → mark ≡ Do item → ShowsTops item.op (seen_at constants item before) y)
    → taken_by (op_of_mark mark) y ≡ take (advice_taken mark) before.tape
mark_takes constants (Do item) before y enough tops =
    op_takes item.op (seen_at constants item before) before.tape y refl enough (tops item refl)
mark_takes constants mark before y enough tops = refl

module _ {constants : List ℕ} (len : length constants ≡ number_of_constants) {kernel : List (List ℕ)} {limit : ℕ} {x y : List ℕ}
    (m : IsMoment constants kernel limit x y) where
  pub row_takes : taken_by (op_of_mark m.mark) y ≡ take (advice_taken m.mark) m.s.tape
  row_takes = mark_takes constants m.mark m.s y m.cycle.enough (moment_tops len m)
