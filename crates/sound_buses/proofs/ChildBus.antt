-- Each child that ends is named: by the statement, or by a row.
use Rattle.sound_buses.proofs.Words.{◌≡◌, ℕ, suc, ◌+◌, inl, inr, List, [], ◌∷◌, refl, sym, false, arith, counted, once, is_start_op, addr, children_asked}
use Rattle.sound_buses.proofs.Words.{children_given, front, Claim, row_at, ShowsRows, op_in, IsAt}
use Rattle.sound_buses.proofs.Words.ops
use Rattle.sound_buses.specs.Children.{IsNamed, statement}
use Rattle.sound_buses.proofs.ChildAsks.{asked_by, asks}
use Rattle.sound_buses.proofs.ChildTuples.{child_tuple, named_by, same_named}
use Rattle.sound_buses.proofs.RowSums.{IsInRow, in_rows, is_given, rows_some}
use Rattle.sound_buses.proofs.Splits.{positive_part}
use Rattle.sound_buses.proofs.Tuples.{single_is}

module _ (k : Claim) (rows : List (List ℕ)) (shows : ShowsRows k rows) (root : List ℕ)
    (alike : (u : List ℕ) → in_rows children_asked rows u ≡ counted (once (child_tuple 0 root 0) ∷ []) u + in_rows children_given rows u) where
  pub child_named : (e : ℕ) → IsAt rows e ops.End
      → IsNamed rows root (addr (row_at rows (suc e))) (front (row_at rows e)) (is_start_op (op_in rows (suc e)))
  unfolding children_given
  child_named e at = elim (positive_part (counted (once (child_tuple 0 root 0) ∷ []) (asked_by rows e)) _ (is_given alike (asks at))) [
    | inl some ↦ same_named rows root _ _ _ 0 root false (single_is _ _ some) (λ p d. statement (sym p) d)
    | inr some ↦
        let found : (j : ℕ) × IsInRow children_given rows (asked_by rows e) j = rows_some some in
        named_by rows root _ _ _ found.0 (op_in rows found.0) (record { within = found.1.within; is = refl })
        (shows.row_is found.0 (omega (arith, found.1.within))).row.block.condition found.1.positive
  ]
