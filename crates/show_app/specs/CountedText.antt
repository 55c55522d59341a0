-- Which rows ask and give the tuple of a refusal, and how often, and those that its key says beside them (docs/SHOW.md).
use Rattle.std.specs.Prelude.{ℕ, ◌+◌, ◌==◌, nat_lt, ◌&&◌, ◌||◌, Bool, false, if◌then◌else◌, List, [], ◌∷◌, ◌++◌, slice_get, Option, Some, None}
use Rattle.std.specs.List.{flat_map}
use Rattle.air_kit.specs.Places.{Claim}
use Rattle.air_kit.specs.Tables.{table_number}
use Rattle.air_kit.specs.Traces.{rows_of}
use Rattle.air_kit.specs.declared.trace.TableName.{TableName}
use Rattle.air_kit.specs.declared.trace.Trace.{Trace}
use Rattle.buses.specs.declared.bus.Bus.{Bus}
use Rattle.checker.specs.RowCounts.{counts_on, statement_gives}
use Rattle.checker.specs.declared.row_counts.RowCount.{RowCount}
use Rattle.show_text.specs.BesideText.{row_beside}
use Rattle.show_text.specs.CountText.{row_count_line, rows_line, statement_line}
use Rattle.show_text.specs.KeyRows.{key_rows, table_by}

-- how many are told of the rows that ask, and of those that give
abbrev pub most_told : ℕ
most_told = 16

-- 1 where a count is not 0
abbrev pub one_of : ℕ → ℕ
one_of count = if count == 0 then 0 else 1

-- a row that asks where less than sixteen did before it, or that gives where less than sixteen did
abbrev pub is_told : ℕ → ℕ → RowCount → Bool
is_told asking giving r = (nat_lt 0 r.asked && nat_lt asking most_told) || (nat_lt 0 r.given && nat_lt giving most_told)

abbrev pub told_line : Trace → ℕ → ℕ → RowCount → List ℕ
told_line t asking giving r = if is_told asking giving r then row_count_line t r.table r.row r.asked r.given else []

-- rows behind so many that ask and so many that give, and how many there are in all
unfoldable pub told_rows : Trace → ℕ → ℕ → List RowCount → List ℕ
told_rows t asking giving [] = rows_line asking giving
told_rows t asking giving (r ∷ rs) = told_line t asking giving r ++ told_rows t (asking + one_of r.asked) (giving + one_of r.given) rs

-- a row is among those that ask or give the tuple
unfoldable pub is_row : TableName → ℕ → RowCount → Bool
is_row name row r = (table_number r.table == table_number name) && (r.row == row)

unfoldable pub is_counted : TableName → ℕ → List RowCount → Bool
is_counted name row [] = false
is_counted name row (r ∷ rs) = is_row name row r || is_counted name row rs

-- a row that the key says, where it neither asks nor gives the tuple
abbrev pub key_line : Trace → TableName → List RowCount → Option ℕ → List ℕ
key_line t name rs None = []
key_line t name rs (Some row) = if is_counted name row rs then [] else row_beside name row (slice_get (rows_of t name) row)

abbrev pub key_lines : Trace → TableName → List RowCount → List (Option ℕ) → List ℕ
key_lines t name rs rows = flat_map (key_line t name rs) rows

-- by the counts of all rows, those that are told, and those beside them
abbrev pub rows_told : Trace → Bus → List ℕ → List RowCount → List ℕ
rows_told t bus tuple rs = told_rows t 0 0 rs ++ key_lines t (table_by bus) rs (key_rows t bus tuple)

-- the statement, where it gives the tuple, and then the rows
abbrev pub counted_text : Claim → Trace → Bus → List ℕ → List ℕ
counted_text c t bus tuple = statement_line (statement_gives c bus tuple) ++ rows_told t bus tuple (counts_on c t bus tuple)
