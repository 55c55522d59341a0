-- Memory's rows as the rows of their accesses.
use Rattle.std.specs.Prelude.{◌≡◌, ℕ, suc, ◌/◌, ◌%◌, ◌^◌, ◌<◌, List, [], ◌∷◌, length, slice_index, Some}
use Rattle.air_kit.specs.declared.requests.Access.{Access}
use Rattle.chip_columns.specs.MemoryColumns.{d0, d1}
use Rattle.facts_memory.specs.AccessRows.{row_behind}
use Rattle.vm_table.specs.Layout.{row_at}
use Rattle.facts_memory.specs.MemoryTables.{access_at}

-- the row of the first access, which may have any step
unfoldable pub first_row : Access → ℕ → ℕ → List ℕ
first_row a low high =
    a.kind ∷ a.ctx ∷ a.addr ∷ a.clk ∷ slice_index a.word 0 ∷ slice_index a.word 1 ∷ slice_index a.word 2 ∷ slice_index a.word 3
    ∷ 1 ∷ 0 ∷ low ∷ high ∷ a.addr % 2 ^ 16 ∷ a.addr / 2 ^ 16 ∷ []

-- each row is that of its access behind the access before
pub record AreAccessRows (rows : List (List ℕ)) : Type 0 where
  pub first : 0 < length rows → row_at rows 0 ≡ first_row (access_at rows 0) (d0 (row_at rows 0)) (d1 (row_at rows 0))
  pub later : (i : ℕ) → suc i < length rows → row_at rows (suc i) ≡ row_behind (Some (access_at rows i)) (access_at rows (suc i))
