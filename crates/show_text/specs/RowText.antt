-- Rows of a table, cell by cell (docs/SHOW.md).
use Rattle.std.specs.Prelude.{ℕ, ◌+◌, ◌-◌, ◌==◌, if◌then◌else◌, min, List, [], ◌∷◌, ◌++◌, length, codes, decimal, slice_index, slice_index_or}
use Rattle.std.specs.List.{flat_map, range_with_len}
use Rattle.vm_table.specs.MainColumns.{b}
use Rattle.air_kit.specs.Flags.{spelled}
use Rattle.air_kit.specs.Traces.{rows_of}
use Rattle.air_kit.specs.declared.trace.TableName.{TableName}
use Rattle.air_kit.specs.declared.trace.TableName.TheVariants as table
use Rattle.air_kit.specs.declared.trace.Trace.{Trace}
use Rattle.show_constraints.specs.Columns.{columns_of}
use Rattle.show_text.specs.RunText.{name_or_number, op_spelled}

-- a cell that is not 0: a space, the column's name and the value
abbrev pub cell_text : List ℕ → ℕ → List ℕ
cell_text name value = if value == 0 then [] else 32 ∷ name ++ codes "=" ++ decimal value

-- the cells of a row that are not 0, in the order of the columns
abbrev pub cells_text : List (List ℕ) → List ℕ → List ℕ
cells_text names cells = flat_map (λ i. cell_text (slice_index_or names i []) (slice_index cells i)) (range_with_len 0 (length names))

-- the row of this number
abbrev pub row_line : List (List ℕ) → ℕ → List ℕ → List ℕ
row_line names number cells = codes "row " ++ decimal number ++ cells_text names cells ++ codes "\n"

-- a row of the main table has its operation behind the number
abbrev pub main_line : ℕ → List ℕ → List ℕ
main_line number cells =
    codes "row " ++ decimal number ++ codes " " ++ name_or_number (op_spelled cells) (spelled 7 (b cells))
    ++ cells_text (columns_of table.Main) cells ++ codes "\n"

-- the row of this number of a table
abbrev pub line_of : TableName → ℕ → List ℕ → List ℕ
line_of table.Main = main_line
line_of table.Range = row_line (columns_of table.Range)
line_of table.Hasher = row_line (columns_of table.Hasher)
line_of table.Bitwise = row_line (columns_of table.Bitwise)
line_of table.Memory = row_line (columns_of table.Memory)
line_of table.Kernel = row_line (columns_of table.Kernel)
line_of table.Left = row_line (columns_of table.Left)

-- those of these rows from one to another, both included, as far as there are any
abbrev pub lines_between : (ℕ → List ℕ → List ℕ) → List (List ℕ) → ℕ → ℕ → List ℕ
lines_between line rows first last =
    flat_map (λ i. line i (slice_index_or rows i [])) (range_with_len first (min (last + 1) (length rows) - first))

-- those of a table
abbrev pub rows_text : Trace → TableName → ℕ → ℕ → List ℕ
rows_text t name first last = lines_between (line_of name) (rows_of t name) first last
