-- Where the cells come from that a stack has below the sixteenth.
use Rattle.std.specs.Prelude.{◌≡◌, ◌≢◌, ℕ, suc, ◌+◌, ◌-◌, ◌<◌, true, List, [], length, slice_index, slice_get, slice_index_or}
use Rattle.vm_table.specs.MainColumns.{s, depth, key}
use Rattle.chip_columns.specs.LeftColumns as left
use Rattle.air_kit.specs.ChipTuples.{next_key}
use Rattle.air_kit.specs.DeepCells.{input_key, input_keys, key_of}
use Rattle.air_kit.specs.Flags.{is_right}
use Rattle.air_kit.specs.MainTuples.{row_shifts_left}
use Rattle.vm_table.specs.Layout.{row_at}
use Rattle.facts_main.specs.MainRows.{op_in}

-- the cell under a key: a row whose clock is the key pushed it below the sixteenth, where this was the key of the one below it
pub record IsPushed (rows : List (List ℕ)) (at cell below : ℕ) : Type 0 where
  pub within : suc at < length rows
  pub right : is_right (op_in rows at) ≡ true
  pub cell_is : cell ≡ s (row_at rows at) 15
  pub below_is : below ≡ key (row_at rows at)

-- or it is one of these inputs, which are below the sixteenth at the start, and the key is that input's: the one below it is the next
-- input, where there is one
pub record IsInput (deep : List ℕ) (at cell below : ℕ) : Type 0 where
  pub number : ℕ
  pub within : number < length deep
  pub key_is : at ≡ input_key number
  pub cell_is : cell ≡ slice_index deep number
  pub below_is : below ≡ key_of (input_keys (suc number) (length deep - suc number))

-- the cell under a key, and the key of the one below it
pub data IsEntry (deep : List ℕ) (rows : List (List ℕ)) (at cell below : ℕ) : Type 0 where
  pushed : IsPushed rows at cell below → IsEntry deep rows at cell below
  input : IsInput deep at cell below → IsEntry deep rows at cell below

-- A left shift of a deeper stack brings in the cell under the row's key; and the cells that are left at the end are those under
-- the keys that the table of cells left has.
pub record OverflowFacts (deep : List ℕ) (rows left_rows : List (List ℕ)) (outputs : List ℕ) : Type 0 where
  pub brought : (r : ℕ) → suc r < length rows → row_shifts_left (row_at rows r) ≡ true → depth (row_at rows r) ≢ 16
      → IsEntry deep rows (key (row_at rows r)) (s (row_at rows (suc r)) 15) (key (row_at rows (suc r)))
  pub stays : (i : ℕ) → i < length left_rows
      → IsEntry deep rows (left.key (slice_index_or left_rows i [])) (slice_index outputs (16 + i)) (next_key (slice_get left_rows (suc i)))
