use Rattle.air_stack.proofs.QuickLemmas.{copies_clean}
use Rattle.air_stack.proofs.quick.are_tops_clean.Goals as goal

pub returns-then-sources-leaves : goal.returns-then-sources-leaves
returns-then-sources-leaves g c = λ is.
    copies_clean (g.V.View.cells c.args.x.now) (g.V.View.cells c.args.y.now) c.args.op _ _ c.sources-sources.ensures.is
    c.leaves.ensures.is c.if-sources-leaves.true c.sources-sources.ensures.visible (c.are_copies.ensures is)
