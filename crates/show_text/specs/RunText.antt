-- The tables of a trace and the operations of its run (docs/SHOW.md).
use Rattle.std.specs.Prelude.{ℕ, if◌then◌else◌, List, ◌∷◌, ◌++◌, length, codes, decimal, Option, Some, None}
use Rattle.std.specs.List.{flat_map}
use Rattle.decimal_text.specs.Decimals.{element_text}
use Rattle.vm_ops.specs.Codes.{op_at, text_of_op}
use Rattle.vm_ops.specs.declared.op.Op.{Op}
use Rattle.vm_table.specs.MainColumns.{addr, b, clk, depth, s}
use Rattle.air_kit.specs.Decoding.{are_bits}
use Rattle.air_kit.specs.Flags.{spelled}
use Rattle.air_kit.specs.Tables.{every_table, text_of_table}
use Rattle.air_kit.specs.Traces.{rows_of}
use Rattle.air_kit.specs.declared.trace.TableName.{TableName}
use Rattle.air_kit.specs.declared.trace.Trace.{Trace}

-- the operation whose code the seven columns of a row spell, where they are bits and it is one's
abbrev pub op_spelled : List ℕ → Option Op
op_spelled row = if are_bits row then op_at (spelled 7 (b row)) else None

-- an operation's name; where there is none, `?` and the number that the columns spell
abbrev pub name_or_number : Option Op → ℕ → List ℕ
name_or_number (Some op) number = text_of_op op
name_or_number None number = 63 ∷ decimal number

-- a row of the main table: its clock, its operation, the depth and the four top cells of its stack, and the address of its block
abbrev pub run_line : List ℕ → List ℕ
run_line row =
    codes "clk " ++ decimal (clk row) ++ codes " " ++ name_or_number (op_spelled row) (spelled 7 (b row)) ++ codes " depth" ++ element_text (depth row)
    ++ codes " stack" ++ element_text (s row 0) ++ element_text (s row 1) ++ element_text (s row 2) ++ element_text (s row 3)
    ++ codes " addr" ++ element_text (addr row) ++ codes "\n"

-- how many rows a table has
abbrev pub table_line : Trace → TableName → List ℕ
table_line t name = text_of_table name ++ codes " rows " ++ decimal (length (rows_of t name)) ++ codes "\n"

-- the tables in their order, and then the run
abbrev pub trace_text : Trace → List ℕ
trace_text t = flat_map (table_line t) every_table ++ flat_map run_line t.main
