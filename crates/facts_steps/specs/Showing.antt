-- A row of an ordinary operation and the row behind it show one step of the machine.
use Rattle.std.specs.Prelude.{◌≡◌, ◌≢◌, ℕ, suc, ◌+◌, ◌<◌, true, List, length, slice_index, Ok}
use Rattle.vm_field.specs.Machine.{word_at, IsWord}
use Rattle.vm_ops.specs.Codes.{is_ordinary_op}
use Rattle.vm_ops.specs.Step.{step}
use Rattle.vm_ops.specs.declared.op.Op.{Op}
use Rattle.vm_table.specs.MainColumns.{s, depth}
use Rattle.air_kit.specs.Flags.{is_left}
use Rattle.air_kit.specs.RowStates.{Elsewhere, elsewhere_at, state_of}
use Rattle.vm_table.specs.Layout.{row_at}
use Rattle.facts_main.specs.MainRows.{op_in}
use Rattle.facts_steps.specs.Joined.{IsRowOf, item_of}
use Rattle.facts_steps.specs.Lookups.{Lookups}

-- The step leads from the state of the row to that of the row behind it. This one shows its depth, and its memory is made of words.
pub record ShowsStep (constants : List ℕ) (op : Op) (x y : List ℕ) (e f : Elsewhere) : Type 0 where
  pub steps : step constants (item_of op y) (state_of x e) ≡ Ok (state_of y f)
  pub depth_is : depth y ≡ 16 + length f.below
  pub words : (context place : ℕ) → IsWord (word_at f.memory context place)

-- The row at a place of a main table whose first row has these cells below the sixteenth, with what the rows before it and behind it
-- say that it does not show. Where it takes the first cell below the sixteenth, the row behind it has this cell.
pub record IsPlace (constants deep : List ℕ) (rows : List (List ℕ)) (i : ℕ) : Type 0 where
  pub within : suc i < length rows
  pub ordinary : is_ordinary_op (op_in rows i) ≡ true
  pub here : IsRowOf (row_at rows i) (elsewhere_at deep rows i)
  pub finds : is_left (op_in rows i) ≡ true → depth (row_at rows i) ≢ 16
      → s (row_at rows (suc i)) 15 ≡ slice_index (elsewhere_at deep rows i).below 0
  pub looks : Lookups constants (op_in rows i) (row_at rows i) (row_at rows (suc i)) (elsewhere_at deep rows i)
