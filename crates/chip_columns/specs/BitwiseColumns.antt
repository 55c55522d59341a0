-- The columns of the bitwise table, by name (docs/CONSTRAINTS.md). A row is the list of its elements.
use Rattle.std.specs.Prelude.{ℕ, List, slice_index}

-- 1 for the exclusive or, 0 for the and
abbrev pub op : List ℕ → ℕ
op row = slice_index row 0

-- the bits of the first operand so far
abbrev pub a : List ℕ → ℕ
a row = slice_index row 1

-- the bits of the second operand so far
abbrev pub b : List ℕ → ℕ
b row = slice_index row 2

-- bit 0 of the row's four of the first operand
abbrev pub a0 : List ℕ → ℕ
a0 row = slice_index row 3

-- bit 1 of the row's four of the first operand
abbrev pub a1 : List ℕ → ℕ
a1 row = slice_index row 4

-- bit 2 of the row's four of the first operand
abbrev pub a2 : List ℕ → ℕ
a2 row = slice_index row 5

-- bit 3 of the row's four of the first operand
abbrev pub a3 : List ℕ → ℕ
a3 row = slice_index row 6

-- bit 0 of the row's four of the second operand
abbrev pub b0 : List ℕ → ℕ
b0 row = slice_index row 7

-- bit 1 of the row's four of the second operand
abbrev pub b1 : List ℕ → ℕ
b1 row = slice_index row 8

-- bit 2 of the row's four of the second operand
abbrev pub b2 : List ℕ → ℕ
b2 row = slice_index row 9

-- bit 3 of the row's four of the second operand
abbrev pub b3 : List ℕ → ℕ
b3 row = slice_index row 10

-- the bits of the result so far
abbrev pub z : List ℕ → ℕ
z row = slice_index row 11
