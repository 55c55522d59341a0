use Rattle.air_kit.specs.StackValues.{entry_119}
use Rattle.air_stack.proofs.TermLemmas.{cell_decoded}
use Rattle.air_stack.proofs.cells.entry_119.Goals as goal

pub returns-in-Some-operation : goal.returns-in-Some-operation
returns-in-Some-operation g c =
    rw c.in-Some.is
    (cell_decoded c.args.j (g.V.View.cells c.args.x.now.row.now) (g.V.View.cells c.in-Some.y) c.in-Some-operation.op c.term.result
    ((c.operation.ensures c.in-Some-operation.op).0 c.in-Some-operation.is) c.term.ensures.is c.term.ensures.below)

pub returns-in-None : goal.returns-in-None
unfolding entry_119
returns-in-None g c = rw c.in-Some.is c.sum_of_terms.ensures
