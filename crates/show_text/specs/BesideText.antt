-- Rows beside a tuple, and what the memory table has beside one of the memory bus (docs/SHOW.md).
use Rattle.std.specs.Prelude.{ℕ, ◌==◌, nat_eq, Bool, false, not, ◌&&◌, List, [], ◌∷◌, ◌++◌, length, take, filter, codes, slice_index_or, Option, Some, None}
use Rattle.std.specs.List.{flat_map, range_with_len}
use lib.Pointwise.{pointwise}
use Rattle.chip_columns.specs.MemoryColumns as memory
use Rattle.air_kit.specs.Tables.{text_of_table}
use Rattle.air_kit.specs.declared.trace.TableName.{TableName}
use Rattle.air_kit.specs.declared.trace.TableName.TheVariants as table
use Rattle.air_kit.specs.declared.trace.Trace.{Trace}
use Rattle.buses.specs.declared.bus.Bus.{Bus}
use Rattle.buses.specs.declared.bus.Bus.TheVariants as bus
use Rattle.show_text.specs.RowText.{line_of}

-- how many rows are told at most
abbrev pub most_beside : ℕ
most_beside = 16

-- what a row of memory gives (docs/CONSTRAINTS.md, "Buses")
abbrev pub access_of : List ℕ → List ℕ
access_of row =
    memory.kind row ∷ memory.ctx row ∷ memory.addr row ∷ memory.clk row ∷ memory.v row 0 ∷ memory.v row 1 ∷ memory.v row 2 ∷ memory.v row 3 ∷ []

-- the row is at the tuple's context, address and clock
abbrev pub is_at : List ℕ → List ℕ → Bool
is_at (kind ∷ ctx ∷ addr ∷ clk ∷ word) row = (memory.ctx row == ctx) && (memory.addr row == addr) && (memory.clk row == clk)
is_at tuple row = false

-- and gives another tuple
abbrev pub is_beside : List ℕ → List ℕ → Bool
is_beside tuple row = is_at tuple row && not (pointwise nat_eq (access_of row) tuple)

-- the numbers of these rows, in their order
abbrev pub rows_beside : List ℕ → List (List ℕ) → List ℕ
rows_beside tuple rows = filter (λ i. is_beside tuple (slice_index_or rows i [])) (range_with_len 0 (length rows))

-- a row by its table and number, with its operation in the main table and its cells that are not 0
abbrev pub beside_line : TableName → ℕ → List ℕ → List ℕ
beside_line name number row = codes "beside " ++ text_of_table name ++ codes " " ++ line_of name number row

-- where there is such a row
abbrev pub row_beside : TableName → ℕ → Option (List ℕ) → List ℕ
row_beside name number None = []
row_beside name number (Some row) = beside_line name number row

abbrev pub lines_beside : List ℕ → List (List ℕ) → List ℕ
lines_beside tuple rows = flat_map (λ i. beside_line table.Memory i (slice_index_or rows i [])) (take most_beside (rows_beside tuple rows))

-- the first of them, where the tuple is one of the memory bus
abbrev pub accesses_beside : Trace → Bus → List ℕ → List ℕ
accesses_beside t bus.Memory tuple = lines_beside tuple t.memory
accesses_beside t other tuple = []
