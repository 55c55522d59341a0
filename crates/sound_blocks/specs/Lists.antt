-- The cells that the stack has below the sixteenth, and what the rows show of them.
use Rattle.std.specs.Prelude.{◌≡◌, ◌≢◌, ℕ, suc, ◌+◌, ◌≤◌, ◌<◌, true, List, [], ◌∷◌, ◌++◌, length}
use Rattle.vm_field.specs.Field.{AreElements}
use Rattle.vm_table.specs.MainColumns.{s, depth}
use Rattle.air_kit.specs.DeepCells.{deep_at_start, depth_at_start}
use Rattle.air_kit.specs.MainTuples.{is_call_op, row_shifts_left}
use Rattle.air_kit.specs.Places.{Claim}
use Rattle.air_kit.specs.RowStates.{overflow_at}
use Rattle.air_kit.specs.StackValues.{cells}
use Rattle.air_kit.specs.Traces.{claim_of}
use Rattle.air_kit.specs.declared.trace.Public.{Public}
use Rattle.air_kit.specs.declared.trace.Trace.{Trace}
use Rattle.vm_table.specs.Layout.{row_at}
use Rattle.facts_main.specs.MainRows.{op_in}
use Rattle.sound_buses.specs.Blocks.{Closes}
use Rattle.sound_buses.specs.BusFacts.{Granted}
use Rattle.sound_blocks.specs.Frames.{FrameFacts}

-- the cells below the sixteenth in row i, the newest first
abbrev pub below_at : Claim → List (List ℕ) → ℕ → List ℕ
below_at k rows i = (overflow_at (deep_at_start k) rows i).below

-- A row's depth counts its sixteen cells and those below, which are elements, and from the start on it grows by one a row at most. A
-- left shift of a deeper stack brings the first cell below into the sixteenth. A call ends with none below, and behind its END are
-- those of its start. In the last row the stack is the outputs.
pub record OverflowLists (k : Claim) (rows : List (List ℕ)) : Type 0 where
  pub depth_is : (i : ℕ) → i < length rows → depth (row_at rows i) ≡ 16 + length (below_at k rows i)
  pub bounded : (i : ℕ) → i < length rows → depth (row_at rows i) ≤ depth_at_start k + i
  pub elements : (i : ℕ) → i < length rows → AreElements (below_at k rows i)
  pub deep : (i : ℕ) → suc i < length rows → row_shifts_left (row_at rows i) ≡ true → depth (row_at rows i) ≢ 16
      → below_at k rows i ≡ s (row_at rows (suc i)) 15 ∷ below_at k rows (suc i)
  pub returns : (j e : ℕ) → Closes rows j e → is_call_op (op_in rows j) ≡ true
      → (below_at k rows e ≡ []) × (below_at k rows (suc e) ≡ below_at k rows j)
  pub stack_left : (i : ℕ) → suc i ≡ length rows → cells (row_at rows i) ++ below_at k rows i ≡ k.outputs

abbrev pub GrantedOverflow : Type 0
GrantedOverflow = (p : Public) (t : Trace) → Granted p t → FrameFacts t.main → OverflowLists (claim_of p t) t.main
