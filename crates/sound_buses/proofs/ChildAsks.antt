-- What an END asks on the bus of children, and what a row gives there.
use Rattle.sound_buses.proofs.Words.{◌≡◌, ℕ, suc, true, List, [], refl, is_start_op, addr, is_op, op_of, op_in, children_asked, children_given, children_of}
use Rattle.sound_buses.proofs.Words.{front, row_at, IsAt}
use Rattle.sound_buses.proofs.Words.ops
use Rattle.sound_buses.proofs.ChildTuples.{bit_of, child_tuple}
use Rattle.sound_buses.proofs.RowSums.{IsInRow, row_has}
use Rattle.sound_buses.proofs.Tuples.{tested_is}

-- what an END asks
abbrev pub asked_by : List (List ℕ) → ℕ → List ℕ
asked_by rows e = child_tuple (addr (row_at rows (suc e))) (front (row_at rows e)) (bit_of (is_start_op (op_in rows (suc e))))

module _ {rows : List (List ℕ)} where
  pub asks : {e : ℕ} → IsAt rows e ops.End → IsInRow children_asked rows (asked_by rows e) e
  unfolding children_asked
  asks at = row_has [] at.within (rw at.is refl)

  pub asked_is : {e : ℕ} {u : List ℕ} → IsInRow children_asked rows u e → (is_op (op_in rows e) ops.End ≡ true) × (asked_by rows e ≡ u)
  unfolding children_asked
  asked_is {u = u} at = tested_is _ _ u at.positive

pub given_of : (x y : List ℕ) → children_given x y ≡ children_of (op_of x) x y
unfolding children_given
given_of x y = refl
