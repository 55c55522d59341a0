-- Tables as lists of rows.
use Rattle.std.specs.Prelude.{◌≡◌, ℕ, ◌*◌, ◌^◌, ◌<◌, List, [], length, slice_index, slice_index_or}
use Rattle.vm_field.specs.Field.{prime}

-- the row of this number, where there is one
abbrev pub row_at : List (List ℕ) → ℕ → List ℕ
row_at rows i = slice_index_or rows i []

-- each row has so many elements
pub record IsTable (width : ℕ) (rows : List (List ℕ)) : Type 0 where
  pub wide : (i : ℕ) → i < length rows → length (row_at rows i) ≡ width
  pub below : (i k : ℕ) → slice_index (row_at rows i) k < prime

-- rows that lie in memory: a row that is there has a size
pub record IsHeld (width : ℕ) (rows : List (List ℕ)) : Type 0 where
  pub shape : IsTable width rows
  pub few : 0 < length rows → width * 2112 < 2 ^ 63
