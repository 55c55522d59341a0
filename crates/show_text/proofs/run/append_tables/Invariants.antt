use Rattle.std.proofs.Common.{◌≡◌, ◌++◌, take}
use Rattle.std.specs.List.{flat_map}
use Rattle.air_kit.specs.Tables.{every_table}
use Rattle.show_text.specs.RunText.{table_line}
use Rattle.show_text.proofs.run.append_tables.Given as goal

-- the tables so far stand behind the text
abbrev pub invariant-loop-table : goal.invariant-loop-table
invariant-loop-table l = l.text ≡ l.initial.text ++ flat_map (table_line l.trace) (take l.table-index every_table)
