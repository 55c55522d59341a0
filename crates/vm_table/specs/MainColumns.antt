-- The columns of the main table, by name (docs/CONSTRAINTS.md). A row is the list of its elements.
use Rattle.std.specs.Prelude.{ℕ, ◌+◌, List, slice_index}

-- the clock
abbrev pub clk : List ℕ → ℕ
clk row = slice_index row 0

-- the frame pointer
abbrev pub fmp : List ℕ → ℕ
fmp row = slice_index row 1

-- the context of memory
abbrev pub ctx : List ℕ → ℕ
ctx row = slice_index row 2

-- 1 inside a syscall, else 0
abbrev pub sys : List ℕ → ℕ
sys row = slice_index row 3

-- elements of the digest of the function that runs
abbrev pub f : List ℕ → ℕ → ℕ
f row j = slice_index row (4 + j)

-- the address of the newest block that was started and not ended
abbrev pub addr : List ℕ → ℕ
addr row = slice_index row 8

-- bits of the operation, lowest first
abbrev pub b : List ℕ → ℕ → ℕ
b row j = slice_index row (9 + j)

-- hash elements
abbrev pub h : List ℕ → ℕ → ℕ
h row j = slice_index row (16 + j)

-- 1 in the row of an ordinary operation, else 0
abbrev pub sp : List ℕ → ℕ
sp row = slice_index row 24

-- the positions of the batch that are left
abbrev pub gc : List ℕ → ℕ
gc row = slice_index row 25

-- the place in the group
abbrev pub ox : List ℕ → ℕ
ox row = slice_index row 26

-- flags of the batch: eight, four or two positions in use
abbrev pub c : List ℕ → ℕ → ℕ
c row j = slice_index row (27 + j)

-- cells of the stack, top first
abbrev pub s : List ℕ → ℕ → ℕ
s row j = slice_index row (30 + j)

-- the depth of the stack
abbrev pub depth : List ℕ → ℕ
depth row = slice_index row 46

-- the key of the newest cell below the sixteenth
abbrev pub key : List ℕ → ℕ
key row = slice_index row 47

-- the inverse of the depth less 16
abbrev pub inv : List ℕ → ℕ
inv row = slice_index row 48

-- the hasher address of the batch
abbrev pub ha : List ℕ → ℕ
ha row = slice_index row 49

-- the blocks that were started and not ended
abbrev pub lv : List ℕ → ℕ
lv row = slice_index row 50

-- witnesses, which constraints ask for
abbrev pub w : List ℕ → ℕ → ℕ
w row j = slice_index row (51 + j)

-- limbs of 16 bits
abbrev pub t : List ℕ → ℕ → ℕ
t row j = slice_index row (55 + j)
