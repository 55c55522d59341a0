-- The columns of the kernel table, by name (docs/CONSTRAINTS.md). A row is the list of its elements.
use Rattle.std.specs.Prelude.{ℕ, List, slice_index}

-- elements of the digest
abbrev pub d : List ℕ → ℕ → ℕ
d row j = slice_index row j

-- how often the digest is asked
abbrev pub count : List ℕ → ℕ
count row = slice_index row 4
