-- The columns of the memory table, by name (docs/CONSTRAINTS.md). A row is the list of its elements.
use Rattle.std.specs.Prelude.{ℕ, ◌+◌, List, slice_index}

-- 0 where the word is read, 1 where it is written, 2 where its element 0 is written
abbrev pub kind : List ℕ → ℕ
kind row = slice_index row 0

-- the context
abbrev pub ctx : List ℕ → ℕ
ctx row = slice_index row 1

-- the address
abbrev pub addr : List ℕ → ℕ
addr row = slice_index row 2

-- the clock
abbrev pub clk : List ℕ → ℕ
clk row = slice_index row 3

-- elements of the word
abbrev pub v : List ℕ → ℕ → ℕ
v row j = slice_index row (4 + j)

-- 1 where the context is a new one
abbrev pub n0 : List ℕ → ℕ
n0 row = slice_index row 8

-- 1 where the address is a new one in its context
abbrev pub n1 : List ℕ → ℕ
n1 row = slice_index row 9

-- the low 16 bits of what the order grows by, less one
abbrev pub d0 : List ℕ → ℕ
d0 row = slice_index row 10

-- the high ones
abbrev pub d1 : List ℕ → ℕ
d1 row = slice_index row 11

-- the low 16 bits of the address
abbrev pub a0 : List ℕ → ℕ
a0 row = slice_index row 12

-- the high ones
abbrev pub a1 : List ℕ → ℕ
a1 row = slice_index row 13
