-- Kernel tables whose entries are 0, and what they show.
use Rattle.std.specs.Prelude.{◌≡◌, ℕ, ◌<◌, List, [], length, slice_index, slice_index_or}
use Rattle.vm_field.specs.Field.{prime}
use Rattle.chip_columns.specs.KernelColumns.{d}
use Rattle.air_kit.specs.Places.{Claim, at_number}
use Rattle.air_kit.specs.KernelValues.{kernel_values}
use Rattle.air_kit.specs.Traces.{spot_of}

-- each entry is 0 in each row
abbrev pub KernelIsZero : Claim → List (List ℕ) → Type 0
KernelIsZero c rows = (i number : ℕ) → i < length rows → at_number (kernel_values c (spot_of rows i)) number ≡ 0

-- the words are made of elements
abbrev pub AreBelow : List (List ℕ) → Type 0
AreBelow words = (i j : ℕ) → slice_index (slice_index_or words i []) j < prime

-- each row has the digest of its number
abbrev pub HasDigests : Claim → List (List ℕ) → Type 0
HasDigests c rows = (i j : ℕ) → i < length rows → j < 4 → d (slice_index_or rows i []) j ≡ slice_index (slice_index_or c.kernel i []) j
