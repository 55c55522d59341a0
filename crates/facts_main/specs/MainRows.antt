-- The rows of a main table, and what they show.
use Rattle.std.specs.Prelude.{◌≡◌, ℕ, suc, ◌<◌, List, length}
use Rattle.vm_ops.specs.declared.op.Op.{Op}
use Rattle.vm_table.specs.Layout.{IsTable, row_at}
use Rattle.air_kit.specs.Flags.{op_of}
use Rattle.air_kit.specs.MainValues.{main_values}
use Rattle.air_kit.specs.Places.{Claim, at_number}
use Rattle.air_kit.specs.Traces.{spot_of}
use Rattle.facts_main.specs.Bounds.{IsFirstRow, IsLastRow}
use Rattle.facts_main.specs.Dynamic.{IsDynRow}
use Rattle.facts_main.specs.Limbs.{IsLimbRow, MovesLimbs}
use Rattle.facts_main.specs.RowFacts.{ReadsAs, IsRow, IsPair}
use Rattle.facts_main.specs.Stack.{IsStackRow, MovesStack}

-- the operation of row i
abbrev pub op_in : List (List ℕ) → ℕ → Op
op_in rows i = op_of (row_at rows i)

-- each entry is 0 in each row
pub record MainIsZero (k : Claim) (rows : List (List ℕ)) : Type 0 where
  pub table : IsTable 65 rows
  pub zero : (i number : ℕ) → i < length rows → at_number (main_values k (spot_of rows i)) number ≡ 0

-- what a row shows
pub record ShowsRow (op : Op) (x : List ℕ) : Type 0 where
  pub reads : ReadsAs op x
  pub row : IsRow op x
  pub stack : IsStackRow op x
  pub limbs : IsLimbRow op x
  pub dyn : IsDynRow op x

-- what a row and the row behind it show
pub record ShowsPair (op next : Op) (x y : List ℕ) : Type 0 where
  pub pair : IsPair op next x y
  pub stack : MovesStack op x y
  pub limbs : MovesLimbs op x y

-- what the rows of a table show
pub record ShowsRows (k : Claim) (rows : List (List ℕ)) : Type 0 where
  pub row_is : (i : ℕ) → i < length rows → ShowsRow (op_in rows i) (row_at rows i)
  pub pair_is : (i : ℕ) → suc i < length rows → ShowsPair (op_in rows i) (op_in rows (suc i)) (row_at rows i) (row_at rows (suc i))
  pub first : 0 < length rows → IsFirstRow k (op_in rows 0) (row_at rows 0)
  pub last : (i : ℕ) → suc i ≡ length rows → IsLastRow k (op_in rows i) (row_at rows i)
