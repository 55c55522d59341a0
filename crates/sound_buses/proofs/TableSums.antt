-- How often a tuple counts over the rows of a small table.
use Rattle.sound_buses.proofs.Words.{◌≡◌, ℕ, ◌<◌, inl, inr, List, [], length, arith, OfRow, at_row, counted, over_first, over_rows}
use Rattle.sound_buses.proofs.Splits.{zero_or}
use Rattle.sound_buses.proofs.Sums.{total_some, total_term}
use Rattle.sound_buses.proofs.Tuples.{nothing_counts}

-- a row in which the tuple counts
pub record IsInTable (tuples : OfRow) (rows : List (List ℕ)) (u : List ℕ) (i : ℕ) : Type 0 where
  pub within : i < length rows
  pub positive : 0 < counted (at_row tuples rows i) u

module _ {tuples : OfRow} {rows : List (List ℕ)} {u : List ℕ} where
  pub table_some : 0 < over_rows tuples rows u → (i : ℕ) × IsInTable tuples rows u i
  unfolding over_first
  table_some some =
      let s = total_some (length rows) (λ i. counted (at_row tuples rows i) u) some in (s.0, record { within = s.1; positive = s.2 })

  pub table_has : {i : ℕ} → IsInTable tuples rows u i → 0 < over_rows tuples rows u
  unfolding over_first
  table_has {i} here = omega (arith, here.positive, total_term (length rows) (λ i. counted (at_row tuples rows i) u) i here.within)

-- no tuples at all
pub rows_none : (rows : List (List ℕ)) (u : List ℕ) → over_rows (λ i x next. []) rows u ≡ 0
rows_none rows u = elim (zero_or (over_rows (λ i x next. []) rows u)) [
  | inl some ↦ let found : (i : ℕ) × IsInTable (λ i x next. []) rows u i = table_some some in nothing_counts u found.1.positive
  | inr none ↦ none
]
