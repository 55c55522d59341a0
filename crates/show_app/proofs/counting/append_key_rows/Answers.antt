use Rattle.std.proofs.Common.{arith, rules}
use Rattle.show_app.proofs.CountedLemmas.{one_key_more}
use Rattle.show_app.proofs.counting.append_key_rows.Goals as goal

pub loop-row-preserved : goal.loop-row-preserved
loop-row-preserved c =
    one_key_more c.args.trace.now c.args.table c.args.counts.now c.args.text.now c.loop-row.text _ c.loop-row.row-index c.args.rows.now _ (omega arith)
    (search rules) c.in_ok-append_key_row.ensures c.loop-row.invariant
