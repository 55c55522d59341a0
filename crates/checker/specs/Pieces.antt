-- The rows of all tables by number, in the order of the tables, and where the pieces of them begin and end.
use Rattle.std.specs.Prelude.{ℕ, ◌+◌, ◌-◌, min, length, take}
use Rattle.air_kit.specs.Tables.{every_table, sum_over, table_number}
use Rattle.air_kit.specs.Traces.{rows_of}
use Rattle.air_kit.specs.declared.trace.TableName.{TableName}
use Rattle.air_kit.specs.declared.trace.Trace.{Trace}
use Rattle.pieces.specs.Cuts.{cut_at}
use Rattle.checker.specs.declared.parts.Part.{Part}

-- how many rows the first n tables have
unfoldable pub rows_before : Trace → ℕ → ℕ
rows_before t n = sum_over (take n every_table) (λ name. length (rows_of t name))

-- how many rows there are
abbrev pub all_rows : Trace → ℕ
all_rows t = rows_before t 7

-- a row's number
abbrev pub number_of : Trace → TableName → ℕ → ℕ
number_of t name row = rows_before t (table_number name) + row

-- how many of a table's rows have a number below n
unfoldable pub rows_below : Trace → TableName → ℕ → ℕ
rows_below t name n = min (n - rows_before t (table_number name)) (length (rows_of t name))

-- the number of the row with which some pieces begin
abbrev pub starts_at : Trace → Part → ℕ
starts_at t part = cut_at part.low (all_rows t) part.pieces

-- and of the one behind them
abbrev pub ends_at : Trace → Part → ℕ
ends_at t part = cut_at part.high (all_rows t) part.pieces
