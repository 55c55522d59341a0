-- The rows of accesses, and the limbs of rows of memory, which the range table is asked for.
use Rattle.std.specs.Prelude.{◌≡◌, ℕ, zero, List, [], ◌∷◌, ◌++◌}
use Rattle.std.specs.List.Sorted.{IsNonDecreasingBy, IsPermutation}
use Rattle.vm_table.specs.Layout.{row_at}
use Rattle.chip_columns.specs.MemoryColumns.{d0, d1, a0, a1}
use Rattle.air_kit.specs.declared.requests.Access.{Access}
use Rattle.facts_memory.specs.Accesses.{access_key}
use Rattle.facts_memory.specs.AccessRows.{rows_of_accesses}

-- the rows are those of these accesses, put in order
pub record AreRowsOf (accesses : List Access) (rows : List (List ℕ)) : Type 0 where
  pub sorted : List Access
  pub same : IsPermutation accesses sorted
  pub in_order : IsNonDecreasingBy access_key sorted
  pub are : rows ≡ rows_of_accesses sorted

-- the limbs of a row
abbrev pub limbs_of_access : List ℕ → List ℕ
limbs_of_access row = d0 row ∷ d1 row ∷ a0 row ∷ a1 row ∷ []

-- those of rows, one behind the other
unfoldable pub limbs_in : List (List ℕ) → List ℕ
limbs_in [] = []
limbs_in (row ∷ rows) = limbs_of_access row ++ limbs_in rows

-- the first row has no step from one before it, so that its columns of steps are 0
pub record HasNoFirstStep (rows : List (List ℕ)) : Type 0 where
  pub low : d0 (row_at rows zero) ≡ 0
  pub high : d1 (row_at rows zero) ≡ 0
