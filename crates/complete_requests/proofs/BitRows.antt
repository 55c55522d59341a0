-- A row asks on the bus of bitwise operations what its operation requests.
use Rattle.complete_rows.proofs.Words
use Words.{◌≡◌, ℕ, ◌<◌, if◌then◌else◌, List, [], ◌∷◌, length, map, refl, ap, ◌∙◌, lit<, number_of_constants, State, left_cells, seen_at, Seen, computed, Item}
use Words.{Op, s, Mark, Do, op_of_mark, Counted, once, is_op, bitwise_asked, bit_given, visible_of, Visible, IsMoment, bits_by}
use Words.ops
use Words.flags
use Rattle.std.proofs.Common.{bit_and, bit_xor}
use Rattle.std.proofs.lemmas.Nat.{and_comm, xor_comm}
use Rattle.vm_ops.specs.Values.{cell}
use Rattle.complete_rows.proofs.MomentFacts.{moment_op}
use Rattle.complete_requests.proofs.Tops.{ShowsTops, moment_cell, moment_tops}

-- what a row of an operation asks
abbrev asked_by : Op → List ℕ → List ℕ → List Counted
asked_by op x y =
    if is_op op ops.U32And then once (0 ∷ s x 0 ∷ s x 1 ∷ s y 0 ∷ []) ∷ []
    else if is_op op ops.U32Xor then once (1 ∷ s x 0 ∷ s x 1 ∷ s y 0 ∷ []) ∷ [] else []

asked_is : (op : Op) (x y : List ℕ) → flags.op_of x ≡ op → bitwise_asked x y ≡ asked_by op x y
unfolding bitwise_asked
asked_is op x y is = ap (λ o. asked_by o x y) is

-- the machine takes the second cell and the first, the request the first and the second
and_left : (sn : Seen) (y : List ℕ) → ShowsTops ops.U32And sn y → s y 0 ≡ bit_and (cell sn 0) (cell sn 1)
unfolding left_cells computed
and_left sn y tops = tops 0 (lit< tt) ∙ and_comm (cell sn 1) (cell sn 0)

xor_left : (sn : Seen) (y : List ℕ) → ShowsTops ops.U32Xor sn y → s y 0 ≡ bit_xor (cell sn 0) (cell sn 1)
unfolding left_cells computed
xor_left sn y tops = tops 0 (lit< tt) ∙ xor_comm (cell sn 1) (cell sn 0)

op_bits : (op : Op) (sn : Seen) (seen : Visible) (x y : List ℕ) → sn.cells ≡ seen.cells → ((j : ℕ) → j < 16 → s x j ≡ cell sn j) → ShowsTops op sn y
    → asked_by op x y ≡ map bit_given (bits_by op seen)
op_bits ops.U32And sn seen x y same cells tops = rw (cells 0 (lit< tt), cells 1 (lit< tt), and_left sn y tops, same) refl
op_bits ops.U32Xor sn seen x y same cells tops = rw (cells 0 (lit< tt), cells 1 (lit< tt), xor_left sn y tops, same) refl
op_bits op sn seen x y same cells tops = refl

mark_bits : (constants : List ℕ) (mark : Mark) (before : State) (x y : List ℕ)
    → ((item : Item) → (j : ℕ) → j < 16 → s x j ≡ cell (seen_at constants item before) j)
    → ((item : Item) → mark ≡ Do item → ShowsTops item.op (seen_at constants item before) y)
    → asked_by (op_of_mark mark) x y ≡ map bit_given (bits_by (op_of_mark mark) (visible_of before.core))
mark_bits constants (Do item) before x y cells tops =
    op_bits item.op (seen_at constants item before) (visible_of before.core) x y refl (cells item) (tops item refl)
mark_bits constants mark before x y cells tops = refl

module _ {constants : List ℕ} (len : length constants ≡ number_of_constants) {kernel : List (List ℕ)} {limit : ℕ} {x y : List ℕ}
    (m : IsMoment constants kernel limit x y) where
  pub row_bits : bitwise_asked x y ≡ map bit_given (bits_by (op_of_mark m.mark) (visible_of m.s.core))
  row_bits =
      asked_is (op_of_mark m.mark) x y (moment_op m)
      ∙ mark_bits constants m.mark m.s x y (λ item. moment_cell len m) (moment_tops len m)
