-- The sides of constraints: where what must be 0 in docs/CONSTRAINTS.md is a cell less what the cell must be, the cell. It is so where
-- the row meets the constraints in front: then the cell stands under the factor 1, or the value is 0.
use Rattle.std.specs.Prelude.{ℕ, ◌+◌, ◌-◌, ◌==◌, nat_le, nat_lt, Bool, true, false, ◌&&◌, ◌||◌, if◌then◌else◌, List, [], ◌∷◌, ◌++◌, length, codes, decimal, slice_get, slice_index_or, bytes_eq, Option, Some, None, option_map, option_and_then}
use Rattle.std.specs.List.{position_or_len}
use Rattle.vm_field.specs.Signs.{◌⊟◌}
use Rattle.vm_ops.specs.Codes.{text_of_op}
use Rattle.vm_ops.specs.declared.op.Op.{Op}
use Rattle.vm_ops.specs.declared.op.Op.TheVariants as ops
use Rattle.air_kit.specs.Flags.{is_op}
use Rattle.air_kit.specs.Tables.{text_of_table}
use Rattle.air_kit.specs.Traces.{rows_of}
use Rattle.air_kit.specs.declared.fault.Fault.{Fault}
use Rattle.air_kit.specs.declared.trace.TableName.{TableName}
use Rattle.air_kit.specs.declared.trace.TableName.TheVariants as table
use Rattle.air_kit.specs.declared.trace.Trace.{Trace}
use Rattle.show_constraints.specs.Columns.{columns_of}
use Rattle.show_text.specs.RunText.{op_spelled}
use Rattle.show_text.specs.declared.sides.Cell.{Cell}
use Rattle.show_text.specs.declared.sides.Cell.TheVariants.{Here, Next, Rows}
use Rattle.show_text.specs.declared.sides.Side.{Side}

-- the cell of the column of this name, in the row of the constraint's place
abbrev pub here : TableName → List ℕ → Cell
here name column = Here (position_or_len (bytes_eq column) (columns_of name))

-- and in the next row
abbrev pub next : TableName → List ℕ → Cell
next name column = Next (position_or_len (bytes_eq column) (columns_of name))

-- constraints from one number to another, and the cell of the first one; that of each later one lies a column further
abbrev pub Sides : Type 0
Sides = ℕ × ℕ × Cell

unfoldable pub sides_of : TableName → List Sides
sides_of table.Main =
    (9, 9, here table.Main (codes "clk"))
    ∷ (10, 10, next table.Main (codes "clk"))
    ∷ (12, 12, here table.Main (codes "addr"))
    ∷ (13, 13, here table.Main (codes "ctx"))
    ∷ (14, 14, here table.Main (codes "fmp"))
    ∷ (15, 15, here table.Main (codes "sys"))
    ∷ (16, 19, here table.Main (codes "f0"))
    ∷ (20, 20, here table.Main (codes "lv"))
    ∷ (21, 21, here table.Main (codes "depth"))
    ∷ (22, 22, here table.Main (codes "key"))
    ∷ (23, 38, here table.Main (codes "s0"))
    ∷ (39, 39, Rows table.Kernel)
    ∷ (40, 40, Rows table.Left)
    ∷ (42, 42, here table.Main (codes "depth"))
    ∷ (43, 43, here table.Main (codes "key"))
    ∷ (44, 59, here table.Main (codes "s0"))
    ∷ (82, 82, next table.Main (codes "ctx"))
    ∷ (83, 83, next table.Main (codes "fmp"))
    ∷ (84, 84, next table.Main (codes "sys"))
    ∷ (85, 88, next table.Main (codes "f0"))
    ∷ (89, 89, next table.Main (codes "addr"))
    ∷ (90, 90, next table.Main (codes "lv"))
    ∷ (91, 91, next table.Main (codes "ha"))
    ∷ (104, 104, next table.Main (codes "h0"))
    ∷ (105, 105, next table.Main (codes "gc"))
    ∷ (106, 106, next table.Main (codes "ox"))
    ∷ (116, 116, next table.Main (codes "depth"))
    ∷ (118, 118, next table.Main (codes "key"))
    ∷ (119, 134, next table.Main (codes "s0"))
    ∷ (143, 143, next table.Main (codes "s1"))
    ∷ (144, 144, next table.Main (codes "s0"))
    ∷ []
sides_of table.Range = (1, 1, here table.Range (codes "v")) ∷ (2, 2, here table.Range (codes "v")) ∷ []
sides_of table.Hasher =
    (5, 5, here table.Hasher (codes "cont"))
    ∷ (6, 6, here table.Hasher (codes "more"))
    ∷ (7, 7, here table.Hasher (codes "more"))
    ∷ (8, 8, next table.Hasher (codes "mode"))
    ∷ (9, 9, next table.Hasher (codes "cont"))
    ∷ (10, 10, next table.Hasher (codes "cont"))
    ∷ (11, 11, here table.Hasher (codes "x0"))
    ∷ (12, 13, here table.Hasher (codes "x2"))
    ∷ (14, 17, next table.Hasher (codes "x0"))
    ∷ []
sides_of table.Bitwise =
    (10, 10, here table.Bitwise (codes "a"))
    ∷ (11, 11, here table.Bitwise (codes "b"))
    ∷ (12, 12, here table.Bitwise (codes "z"))
    ∷ (13, 13, next table.Bitwise (codes "op"))
    ∷ (14, 14, next table.Bitwise (codes "a"))
    ∷ (15, 15, next table.Bitwise (codes "b"))
    ∷ (16, 16, next table.Bitwise (codes "z"))
    ∷ []
sides_of table.Memory = (5, 5, here table.Memory (codes "addr")) ∷ []
sides_of table.Kernel = (1, 4, here table.Kernel (codes "d0")) ∷ []
sides_of table.Left = []

-- a column that the main table could have
abbrev pub is_column : Cell → Bool
is_column (Here column) = nat_lt column 65
is_column (Next column) = nat_lt column 65
is_column (Rows name) = true

abbrev pub has_column : Sides → Bool
has_column sides = is_column sides.2

-- the cell so many columns further
abbrev pub further : Cell → ℕ → Cell
further (Here column) j = Here (column + j)
further (Next column) j = Next (column + j)
further (Rows name) j = Rows name

-- the cell of this number's constraint
unfoldable pub cell_in : ℕ → List Sides → Option Cell
cell_in number [] = None
cell_in number ((first, last, cell) ∷ sides) =
    if nat_le first number && nat_le number last then Some (further cell (number - first)) else cell_in number sides

-- 119 to 134 of the main table compare what an operation leaves
abbrev pub is_of_stack : TableName → ℕ → Bool
is_of_stack table.Main number = nat_le 119 number && nat_le number 134
is_of_stack table.Range number = false
is_of_stack table.Hasher number = false
is_of_stack table.Bitwise number = false
is_of_stack table.Memory number = false
is_of_stack table.Kernel number = false
is_of_stack table.Left number = false

-- the operation that a row of the main table spells
abbrev pub operation_in : TableName → List (List ℕ) → ℕ → Option Op
operation_in table.Main main row = option_and_then op_spelled (slice_get main row)
operation_in table.Range main row = None
operation_in table.Hasher main row = None
operation_in table.Bitwise main row = None
operation_in table.Memory main row = None
operation_in table.Kernel main row = None
operation_in table.Left main row = None

-- that of a fault's row
abbrev pub operation_at : Trace → Fault → Option Op
operation_at t fault = operation_in fault.table t.main fault.row

-- What EQZ, EQ and INV leave on top is compared by a witness or as a factor, and of a borrow it is said that it is a bit: this does not tell
-- what the cell must be.
abbrev pub is_untold : ℕ → Option Op → Bool
is_untold number None = false
is_untold number (Some op) =
    (number == 119) && (is_op op ops.Eqz || is_op op ops.Eq || is_op op ops.Inv) || (number == 144) && is_op op ops.U32Sub

-- the operation whose work a constraint compares
abbrev pub compared : Fault → Option Op → Option Op
compared fault op = if is_of_stack fault.table fault.number then op else None

-- the cell of a column in a row, where there are both
abbrev pub cell_at : List (List ℕ) → ℕ → ℕ → Option ℕ
cell_at rows row column = option_and_then (λ cells. slice_get cells column) (slice_get rows row)

-- what is in a cell at a fault's place
abbrev pub value_at : Trace → Fault → Cell → Option ℕ
value_at t fault (Here column) = cell_at (rows_of t fault.table) fault.row column
value_at t fault (Next column) = cell_at (rows_of t fault.table) (fault.row + 1) column
value_at t fault (Rows name) = Some (length (rows_of t name))

abbrev pub side_by : Trace → Fault → Option Op → Option Cell → Option Side
side_by t fault op None = None
side_by t fault op (Some cell) = option_map (λ value. record { cell = cell; value = value; op = op }) (value_at t fault cell)

-- the side of the constraint of a fault, with what is in it and the operation that leaves it, where the constraint has one
abbrev pub side_of : Trace → Fault → Option Side
side_of t fault =
    if is_untold fault.number (operation_at t fault) then None
    else side_by t fault (compared fault (operation_at t fault)) (cell_in fault.number (sides_of fault.table))

-- the name of a cell: a prime marks the next row
abbrev pub name_of : TableName → Cell → List ℕ
name_of name (Here column) = slice_index_or (columns_of name) column []
name_of name (Next column) = slice_index_or (columns_of name) column [] ++ codes "'"
name_of name (Rows other) = text_of_table other ++ codes " rows"

-- what must be in it: what the operation leaves, where the constraint compares that
abbrev pub must_text : Option Op → List ℕ
must_text None = codes ", must be "
must_text (Some op) = codes ", " ++ text_of_op op ++ codes " leaves "

-- What is in the cell, and what must be: what is, less the fault's value.
abbrev pub side_text : Fault → Side → List ℕ
side_text fault side =
    name_of fault.table side.cell ++ codes " is " ++ decimal side.value ++ must_text side.op ++ decimal (side.value ⊟ fault.value)
