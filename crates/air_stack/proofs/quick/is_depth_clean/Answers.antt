use Rattle.air_stack.proofs.QuickLemmas.{depth_clean}
use Rattle.air_stack.proofs.quick.is_depth_clean.Goals as goal

pub returns-then-is_deep_clean : goal.returns-then-is_deep_clean
returns-then-is_deep_clean g c = λ is.
    depth_clean (g.V.View.cells c.args.x.now) (g.V.View.cells c.args.y.now) c.args.op c.requires.has c.requires.steady
    (c.is_deep_clean.ensures c.if-is_deep_clean.true) (c.shifts.ensures is)
