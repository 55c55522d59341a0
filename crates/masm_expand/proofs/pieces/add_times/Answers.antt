use Rattle.std.proofs.Common.{arith}
use Rattle.masm_expand.proofs.Joined.{more_times}
use Rattle.masm_expand.proofs.pieces.add_times.Goals as goal

pub loop-preserved : goal.loop-preserved
loop-preserved c =
    more_times c.loop.items c.push.new.self _ c.args.operation c.plain.result c.args.times c.loop.counter
    (omega arith) c.plain.ensures c.in_ok-push.ensures.ok c.loop.invariant
