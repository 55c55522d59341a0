use Rattle.air_stack.proofs.OperandLemmas.{no_operands, not_so}
use Rattle.air_stack.proofs.operands.lacks_operands.Goals as goal

pub returns-in-Some : goal.returns-in-Some
returns-in-Some g c = λ is.
    no_operands (g.V.View.cells c.args.x.now.row.now) c.in-Some.op ((c.operation.ensures c.in-Some.op).0 c.in-Some.is)
    (not_so c.has_operands.result _ c.has_operands.ensures is)
