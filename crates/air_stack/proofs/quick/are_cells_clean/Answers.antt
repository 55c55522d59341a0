use Rattle.air_stack.proofs.QuickLemmas.{cells_clean}
use Rattle.air_stack.proofs.quick.are_cells_clean.Goals as goal

pub returns-then-are_tops_clean : goal.returns-then-are_tops_clean
returns-then-are_tops_clean g c = λ is.
    cells_clean (g.V.View.cells c.args.x.now) (g.V.View.cells c.args.y.now) c.args.op c.requires.has c.requires.steady
    (c.are_tops_clean.ensures c.if-are_tops_clean.true) (c.are_below_clean.ensures is)
