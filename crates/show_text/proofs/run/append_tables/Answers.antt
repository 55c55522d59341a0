use Rattle.std.proofs.Common.{refl, arith}
use Rattle.air_kit.specs.Tables.{every_table}
use Rattle.show_text.specs.RunText.{table_line}
use Rattle.show_text.proofs.Lines.{row_more}
use Rattle.show_text.proofs.run.append_tables.Goals as goal

pub loop-table-preserved : goal.loop-table-preserved
loop-table-preserved c =
    row_more (table_line c.args.trace.now) every_table c.args.text.now c.loop-table.text _ c.loop-table.table-index _ _ (omega arith)
    c.loop-table.invariant c.in_ok-append_table.ensures refl
