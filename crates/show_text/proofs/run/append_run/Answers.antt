use Rattle.std.proofs.Common.{[], arith}
use Rattle.show_text.specs.RunText.{run_line}
use Rattle.show_text.proofs.Lines.{row_more}
use Rattle.show_text.proofs.run.append_run.Goals as goal

pub loop-i-preserved : goal.loop-i-preserved
loop-i-preserved c =
    row_more run_line c.args.main.now c.args.text.now c.loop-i.text _ c.loop-i.i [] _ (omega arith) c.loop-i.invariant c.in_ok-append_row.ensures
    c.row.ensures.cells
