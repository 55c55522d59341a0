-- The columns of the left table, by name (docs/CONSTRAINTS.md). A row is the list of its elements.
use Rattle.std.specs.Prelude.{ℕ, List, slice_index}

-- the key of a cell below the sixteenth at the end
abbrev pub key : List ℕ → ℕ
key row = slice_index row 0
