-- The loop that a turn belongs to.
use Rattle.sound_buses.proofs.Words.{◌≡◌, ℕ, List, [], ◌∷◌, drop, slice_index, true, refl, ap, addr, is_op, front, loops_asked, loops_given, row_at}
use Rattle.sound_buses.proofs.Words.{op_in, IsAt, own}
use Rattle.sound_buses.proofs.Words.ops
use Rattle.sound_buses.specs.Children.{IsTurnOf}
use Rattle.sound_buses.proofs.RowSums.{Balanced, IsInRow, giver, row_has}
use Rattle.sound_buses.proofs.Splits.{op_from}
use Rattle.sound_buses.proofs.Tuples.{tested_is}

module _ (rows : List (List ℕ)) (alike : Balanced loops_asked loops_given rows) where
  pub turn_of : (r : ℕ) → IsAt rows r ops.Repeat → (j : ℕ) × IsTurnOf rows r j
  unfolding loops_asked loops_given
  turn_of r at = (
    found.0,
    record {
      is_loop = record { within = found.1.within; is = op_from given.0 };
      own_is = ap (λ xs. slice_index xs 0) given.1;
      body = ap (drop 1) given.1;
    },
  )
    where
      u : List ℕ
      u = addr (row_at rows r) ∷ front (row_at rows r)

      found : (j : ℕ) × IsInRow loops_given rows u j
      found = giver alike (row_has [] at.within (rw at.is refl))

      given : (is_op (op_in rows found.0) ops.Loop ≡ true) × (own rows found.0 ∷ front (row_at rows found.0) ≡ u)
      given = tested_is _ _ u found.1.positive
