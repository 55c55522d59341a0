-- How often the statement and each row ask and give one tuple on one bus.
use Rattle.std.specs.Prelude.{ℕ, zero, suc, ◌==◌, ◌&&◌, if◌then◌else◌, List, [], ◌∷◌, ◌++◌, length}
use Rattle.std.specs.List.{flat_map}
use Rattle.air_kit.specs.Acceptance.{statement_given}
use Rattle.air_kit.specs.ChipTuples.{chip_given}
use Rattle.air_kit.specs.MainTuples.{main_given}
use Rattle.air_kit.specs.Places.{Claim}
use Rattle.air_kit.specs.Tables.{every_table}
use Rattle.air_kit.specs.Traces.{rows_of}
use Rattle.air_kit.specs.declared.trace.TableName.{TableName}
use Rattle.air_kit.specs.declared.trace.TableName.TheVariants as table
use Rattle.air_kit.specs.declared.trace.Trace.{Trace}
use Rattle.buses.specs.Counts.{OfRow, at_row, counted, with_next}
use Rattle.buses.specs.declared.bus.Bus.{Bus}
use Rattle.checker.specs.Counting.{asked_of}
use Rattle.checker.specs.declared.row_counts.RowCount.{RowCount}

-- what a row of a table gives by itself: what the statement gives is counted apart
abbrev pub given_alone : Bus → TableName → OfRow
given_alone bus table.Main = with_next (main_given bus)
given_alone bus table.Range = chip_given bus table.Range
given_alone bus table.Hasher = chip_given bus table.Hasher
given_alone bus table.Bitwise = chip_given bus table.Bitwise
given_alone bus table.Memory = chip_given bus table.Memory
given_alone bus table.Kernel = chip_given bus table.Kernel
given_alone bus table.Left = chip_given bus table.Left

-- how often the statement gives the tuple u
abbrev pub statement_gives : Claim → Bus → List ℕ → ℕ
statement_gives c bus u = counted (statement_given bus c) u

-- how often row i of a table asks it
abbrev pub row_asks : Claim → Trace → Bus → List ℕ → TableName → ℕ → ℕ
row_asks c t bus u name i = counted (at_row (asked_of c bus name) (rows_of t name) i) u

-- and how often it gives it
abbrev pub row_gives : Trace → Bus → List ℕ → TableName → ℕ → ℕ
row_gives t bus u name i = counted (at_row (given_alone bus name) (rows_of t name) i) u

-- the counts at the first row of the main table have those of the statement beside its own
abbrev pub beside : TableName → ℕ → ℕ → ℕ
beside table.Main i statement = if i == 0 then statement else 0
beside name i statement = 0

-- both counts of a row
abbrev pub row_count : Claim → Trace → Bus → List ℕ → TableName → ℕ → RowCount
row_count c t bus u name i = record { table = name; row = i; asked = row_asks c t bus u name i; given = row_gives t bus u name i }

-- counts of which one at least is not 0
abbrev pub where_some : RowCount → List RowCount
where_some r = if r.asked == 0 && r.given == 0 then [] else r ∷ []

-- those of the first n rows of a table that ask or give the tuple, in their order
unfoldable pub first_counts : Claim → Trace → Bus → List ℕ → TableName → ℕ → List RowCount
first_counts c t bus u name zero = []
first_counts c t bus u name (suc n) = first_counts c t bus u name n ++ where_some (row_count c t bus u name n)

-- those of a table
abbrev pub table_counts : Claim → Trace → Bus → List ℕ → TableName → List RowCount
table_counts c t bus u name = first_counts c t bus u name (length (rows_of t name))

-- those of all tables, in their order
abbrev pub counts_on : Claim → Trace → Bus → List ℕ → List RowCount
counts_on c t bus u = flat_map (table_counts c t bus u) every_table
