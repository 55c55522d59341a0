-- The rows that the key of a tuple says: those that ask or give a tuple of this key in a true run (docs/SHOW.md).
use Rattle.std.specs.Prelude.{ℕ, zero, suc, ◌+◌, ◌==◌, nat_le, if◌then◌else◌, List, [], ◌∷◌, length, drop, slice_get, Option, Some, None}
use Rattle.vm_table.specs.MainColumns.{addr, clk, ha}
use Rattle.air_kit.specs.declared.trace.TableName.{TableName}
use Rattle.air_kit.specs.declared.trace.TableName.TheVariants as table
use Rattle.air_kit.specs.declared.trace.Trace.{Trace}
use Rattle.buses.specs.declared.bus.Bus.{Bus}
use Rattle.buses.specs.declared.bus.Bus.TheVariants as bus

-- the first row with this in a column, by its number, where the first one of the list has the number n
unfoldable pub first_with : (List ℕ → ℕ) → ℕ → ℕ → List (List ℕ) → Option ℕ
first_with column value n [] = None
first_with column value n (row ∷ rows) = if column row == value then Some n else first_with column value (n + 1) rows

-- the one behind that
abbrev pub next_with : (List ℕ → ℕ) → ℕ → List (List ℕ) → Option ℕ → Option ℕ
next_with column value rows None = None
next_with column value rows (Some n) = first_with column value (n + 1) (drop (n + 1) rows)

-- a later one, where there is one
abbrev pub or_before : Option ℕ → Option ℕ → Option ℕ
or_before (Some later) before = Some later
or_before None before = before

-- the last row with this in a column
unfoldable pub last_with : (List ℕ → ℕ) → ℕ → ℕ → List (List ℕ) → Option ℕ
last_with column value n [] = None
last_with column value n (row ∷ rows) =
    or_before (last_with column value (n + 1) rows) (if column row == value then Some n else None)

-- the row in front of one
abbrev pub in_front : Option ℕ → Option ℕ
in_front None = None
in_front (Some zero) = None
in_front (Some (suc n)) = Some n

-- a row, where there is this other one and it is not the same
abbrev pub other_than : Option ℕ → Option ℕ → Option ℕ
other_than None row = None
other_than (Some other) None = None
other_than (Some other) (Some row) = if row == other then None else Some row

-- three rows at most
abbrev pub three : Option ℕ → Option ℕ → Option ℕ → List (Option ℕ)
three first second third = first ∷ second ∷ third ∷ []

-- the start of the block of an address, and its END
abbrev pub block_rows : ℕ → List (List ℕ) → List (Option ℕ)
block_rows block main = three (in_front (first_with addr block 0 main)) (last_with addr block 0 main) None

-- the rows in front of the first, the second and the last one of some rows, none twice
abbrev pub rows_before : Option ℕ → Option ℕ → Option ℕ → List (Option ℕ)
rows_before first second last = three (in_front first) (in_front second) (in_front (other_than second last))

-- the parent's start, and the ENDs of its first and of its last child
abbrev pub child_rows : ℕ → List (List ℕ) → List (Option ℕ)
child_rows parent main =
    rows_before (first_with addr parent 0 main) (next_with addr parent main (first_with addr parent 0 main)) (last_with addr parent 0 main)

-- the hasher's row of an address
abbrev pub hasher_row : ℕ → List (List ℕ) → Option ℕ
hasher_row address rows = if nat_le address (length rows) then in_front (Some address) else None

-- by the key of a bus
abbrev pub rows_by : Trace → Bus → ℕ → List (Option ℕ)
rows_by t bus.Blocks block = block_rows block t.main
rows_by t bus.Children parent = child_rows parent t.main
rows_by t bus.Loops block = block_rows block t.main
rows_by t bus.Groups batch = three (in_front (first_with ha batch 0 t.main)) None None
rows_by t bus.Overflow key = three (first_with clk key 0 t.main) None None
rows_by t bus.Hasher address = three (hasher_row address t.hasher) None None
rows_by t bus.Bitwise op = three None None None
rows_by t bus.Memory time = three (first_with clk time 0 t.main) None None
rows_by t bus.Range value = three None None None
rows_by t bus.Kernel element = three None None None

-- the table of these rows
abbrev pub table_by : Bus → TableName
table_by bus.Hasher = table.Hasher
table_by bus.Blocks = table.Main
table_by bus.Children = table.Main
table_by bus.Loops = table.Main
table_by bus.Groups = table.Main
table_by bus.Overflow = table.Main
table_by bus.Bitwise = table.Main
table_by bus.Memory = table.Main
table_by bus.Range = table.Main
table_by bus.Kernel = table.Main

-- the element of a tuple that is its key: the hasher's address, the clock of an access, and of other tuples the first one
abbrev pub key_place : Bus → ℕ
key_place bus.Hasher = 1
key_place bus.Memory = 3
key_place bus.Blocks = 0
key_place bus.Children = 0
key_place bus.Loops = 0
key_place bus.Groups = 0
key_place bus.Overflow = 0
key_place bus.Bitwise = 0
key_place bus.Range = 0
key_place bus.Kernel = 0

abbrev pub rows_at : Trace → Bus → Option ℕ → List (Option ℕ)
rows_at t bus None = three None None None
rows_at t bus (Some key) = rows_by t bus key

-- the rows that a tuple says
abbrev pub key_rows : Trace → Bus → List ℕ → List (Option ℕ)
key_rows t bus tuple = rows_at t bus (slice_get tuple (key_place bus))
