use Rattle.std.proofs.Common.{arith, rules}
use Rattle.show_app.proofs.RefusedLemmas.{one_also_more}
use Rattle.show_app.proofs.refused_rows.append_each.Goals as goal

pub loop-fault-preserved : goal.loop-fault-preserved
loop-fault-preserved c =
    one_also_more c.args.text.now c.loop-fault.text _ c.loop-fault.fault-index c.args.others.now _ (omega arith) (search rules)
    c.in_ok-append_other.ensures c.loop-fault.invariant
