-- Range tables whose entries are 0, and what they show.
use Rattle.std.specs.Prelude.{◌≡◌, ℕ, suc, ◌<◌, List, [], length, slice_index_or}
use Rattle.vm_field.specs.Signs.{◌⊟◌}
use Rattle.chip_columns.specs.RangeColumns.{v}
use Rattle.air_kit.specs.Places.{at_number}
use Rattle.air_kit.specs.RangeValues.{range_values}
use Rattle.air_kit.specs.Traces.{spot_of}

-- each entry is 0 in each row
abbrev pub RangeIsZero : List (List ℕ) → Type 0
RangeIsZero rows = (i number : ℕ) → i < length rows → at_number (range_values (spot_of rows i)) number ≡ 0

-- by how much a value may grow: not at all, or by a power of 3 up to 2187
pub data IsRangeStep : ℕ → Type 0 where
  none : IsRangeStep 0
  one : IsRangeStep 1
  three : IsRangeStep 3
  nine : IsRangeStep 9
  of_27 : IsRangeStep 27
  of_81 : IsRangeStep 81
  of_243 : IsRangeStep 243
  of_729 : IsRangeStep 729
  of_2187 : IsRangeStep 2187

-- the value of row i
abbrev pub value_at : List (List ℕ) → ℕ → ℕ
value_at rows i = v (slice_index_or rows i [])

-- The values go from 0 to 65535 by such steps.
pub record GoesUp (rows : List (List ℕ)) : Type 0 where
  pub first : 0 < length rows → value_at rows 0 ≡ 0
  pub last : (i : ℕ) → suc i ≡ length rows → value_at rows i ≡ 65535
  pub grows : (i : ℕ) → suc i < length rows → IsRangeStep (value_at rows (suc i) ⊟ value_at rows i)
