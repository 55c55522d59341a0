-- How often the statement and rows ask and give a tuple (docs/SHOW.md).
use Rattle.std.specs.Prelude.{ℕ, ◌==◌, if◌then◌else◌, List, [], ◌∷◌, ◌++◌, codes, decimal, slice_get, Option, Some, None}
use Rattle.vm_table.specs.MainColumns.{b}
use Rattle.air_kit.specs.Flags.{spelled}
use Rattle.air_kit.specs.Tables.{text_of_table}
use Rattle.air_kit.specs.declared.trace.TableName.{TableName}
use Rattle.air_kit.specs.declared.trace.TableName.TheVariants as table
use Rattle.air_kit.specs.declared.trace.Trace.{Trace}
use Rattle.show_text.specs.RunText.{name_or_number, op_spelled}

-- a count that is not 0, behind a word
abbrev pub times_text : List ℕ → ℕ → List ℕ
times_text word count = if count == 0 then [] else word ++ decimal count

-- the operation of a row of the main table, where there is such a row
abbrev pub operation_text : Option (List ℕ) → List ℕ
operation_text None = []
operation_text (Some row) = 32 ∷ name_or_number (op_spelled row) (spelled 7 (b row))

-- the operation behind the number of a row; rows of the other tables have none
abbrev pub operation_behind : Trace → TableName → ℕ → List ℕ
operation_behind t table.Main row = operation_text (slice_get t.main row)
operation_behind t table.Range row = []
operation_behind t table.Hasher row = []
operation_behind t table.Bitwise row = []
operation_behind t table.Memory row = []
operation_behind t table.Kernel row = []
operation_behind t table.Left row = []

-- a row by its table and number, with its operation in the main table, how often it asks the tuple and how often it gives it
abbrev pub row_count_line : Trace → TableName → ℕ → ℕ → ℕ → List ℕ
row_count_line t name row asked given =
    text_of_table name ++ codes " row " ++ decimal row ++ operation_behind t name row ++ times_text (codes " asks ") asked
    ++ times_text (codes " gives ") given ++ codes "\n"

-- how often the statement gives it, where it does
abbrev pub statement_line : ℕ → List ℕ
statement_line given = if given == 0 then [] else codes "statement gives " ++ decimal given ++ codes "\n"

-- how many rows ask it, and how many give it
abbrev pub rows_line : ℕ → ℕ → List ℕ
rows_line asking giving = codes "rows asking " ++ decimal asking ++ codes " giving " ++ decimal giving ++ codes "\n"
