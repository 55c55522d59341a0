-- Rows in blocks of 256, in which a column's cells stand side by side.
use Rattle.std.specs.Prelude.{ℕ, ◌+◌, ◌/◌, ◌%◌, List, [], map, slice_index, slice_index_or}
use Rattle.std.specs.List.{range_with_len}

-- the cells of a row of a block, by its place
unfoldable pub block_row : ℕ → List (List ℕ) → ℕ → List ℕ
block_row width block place = map (λ column. slice_index (slice_index_or block column []) place) (range_with_len 0 width)

-- row i
abbrev pub row_in : ℕ → List (List (List ℕ)) → ℕ → List ℕ
row_in width blocks i = block_row width (slice_index_or blocks (i / 256) []) (i % 256)

-- the first n rows
unfoldable pub rows_in : ℕ → List (List (List ℕ)) → ℕ → List (List ℕ)
rows_in width blocks n = map (row_in width blocks) (range_with_len 0 n)

-- how many blocks hold so many rows
abbrev pub blocks_for : ℕ → ℕ
blocks_for n = (n + 255) / 256
