-- The columns of the range table, by name (docs/CONSTRAINTS.md). A row is the list of its elements.
use Rattle.std.specs.Prelude.{ℕ, List, slice_index}

-- how often the value counts
abbrev pub count : List ℕ → ℕ
count row = slice_index row 0

-- the value
abbrev pub v : List ℕ → ℕ
v row = slice_index row 1
