-- Where the cells come from that a stack has below the sixteenth.
use Rattle.sound_buses.proofs.Words.{◌≡◌, ℕ, suc, ◌+◌, ◌<◌, inl, inr, List, [], ◌∷◌, length, slice_index, slice_index_or, refl, sym, ap, subst, ◌∙◌, arith}
use Rattle.sound_buses.proofs.Words.{slice_get, counted, over_rows, clk, depth, key, s, left_asked, next_key, overflow_asked, overflow_given, Claim, row_at}
use Rattle.std.proofs.lemmas.Bool.{ne_eqb}
use Rattle.chip_columns.specs.LeftColumns as left
use Rattle.air_kit.specs.DeepCells.{deep_at_start, tuples_at_start}
use Rattle.sound_buses.specs.Overflow.{IsEntry, IsPushed, OverflowFacts, input, pushed}
use Rattle.sound_buses.proofs.CellTuples.{input_of}
use Rattle.sound_buses.proofs.RowSums.{IsInRow, in_rows, row_has, rows_have, rows_some}
use Rattle.sound_buses.proofs.Splits.{positive_part}
use Rattle.sound_buses.proofs.TableSums.{table_has}
use Rattle.sound_buses.proofs.Tuples.{counts_first, tested_is}

module _ (k : Claim) (rows left_rows : List (List ℕ))
    (alike : (u : List ℕ) → in_rows overflow_asked rows u + over_rows (left_asked k) left_rows u
    ≡ counted (tuples_at_start k) u + in_rows overflow_given rows u)
    (clock : (i : ℕ) → i < length rows → clk (row_at rows i) ≡ i) where
  -- a tuple that a row gives was pushed at the clock that it names
  pushed_by : (at cell below : ℕ) → 0 < in_rows overflow_given rows (at ∷ cell ∷ below ∷ []) → IsPushed rows at cell below
  unfolding overflow_given
  pushed_by at cell below some =
      let found : (i : ℕ) × IsInRow overflow_given rows (at ∷ cell ∷ below ∷ []) i = rows_some some in
      let given = tested_is _ _ (at ∷ cell ∷ below ∷ []) found.1.positive in
      subst (λ n. IsPushed rows n cell below) (sym (clock found.0 (omega (arith, found.1.within))) ∙ ap (λ xs. slice_index xs 0) given.1) (record {
        within = found.1.within;
        right = given.0;
        cell_is = sym (ap (λ xs. slice_index xs 1) given.1);
        below_is = sym (ap (λ xs. slice_index xs 2) given.1);
      })

  -- each tuple that is asked is an entry's
  entry_of : {at cell below : ℕ}
      → 0 < in_rows overflow_asked rows (at ∷ cell ∷ below ∷ []) + over_rows (left_asked k) left_rows (at ∷ cell ∷ below ∷ [])
      → IsEntry (deep_at_start k) rows at cell below
  entry_of {at} {cell} {below} some =
      elim (positive_part (counted (tuples_at_start k) (at ∷ cell ∷ below ∷ [])) _ (omega (arith, some, alike (at ∷ cell ∷ below ∷ [])))) [
        | inl given ↦ input (input_of (deep_at_start k) at cell below given)
        | inr given ↦ pushed (pushed_by at cell below given)
      ]

  pub overflow_facts : OverflowFacts (deep_at_start k) rows left_rows k.outputs
  unfolding overflow_asked left_asked
  overflow_facts = record {
    brought = λ r within is deep. (
        let asked : IsInRow overflow_asked rows (key (row_at rows r) ∷ s (row_at rows (suc r)) 15 ∷ key (row_at rows (suc r)) ∷ []) r
        = row_has [] within (rw (is, ne_eqb (depth (row_at rows r)) 16 deep) refl) in entry_of (omega (arith, rows_have asked)));
    stays = λ i within. (
        let u = left.key (slice_index_or left_rows i []) ∷ slice_index k.outputs (16 + i) ∷ next_key (slice_get left_rows (suc i)) ∷ [] in
        entry_of (omega (arith, table_has {tuples = left_asked k} {i = i} (record { within = within; positive = counts_first u [] }))));
  }
