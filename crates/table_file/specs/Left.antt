-- What of a table file is still to come.
use Rattle.std.specs.Prelude.{ℕ, Bool, if◌then◌else◌, List, [], ◌∷◌, ◌++◌, drop}
use Rattle.air_kit.specs.Tables.{every_table}
use Rattle.air_kit.specs.Traces.{lengths_of, rows_of}
use Rattle.air_kit.specs.declared.trace.TableName.{TableName}
use Rattle.air_kit.specs.declared.trace.Trace.{Trace}
use Rattle.table_file.specs.Fields.{parts_bytes, table_bytes}
use Rattle.table_file.specs.Files.{head_bytes, this_version}

-- of these tables, the first one's rows from this one on, and all rows of the others
unfoldable pub rows_left : Trace → List TableName → ℕ → List ℕ
rows_left t [] row = []
rows_left t (name ∷ names) row = table_bytes (drop row (rows_of t name)) ++ parts_bytes (λ other. table_bytes (rows_of t other)) names

-- of a trace's file, where perhaps the head was given, and the rows in front of this one of this table
unfoldable pub left_of : Trace → Bool → ℕ → ℕ → List ℕ
left_of t has_head table row = (if has_head then [] else head_bytes this_version (lengths_of t)) ++ rows_left t (drop table every_table) row
