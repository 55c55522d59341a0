use Rattle.std.proofs.Common.{option_map, sym}
use Rattle.air_stack.specs.Parts.{spot_between}
use Rattle.air_stack.proofs.OperandLemmas.{no_fault}
use Rattle.air_stack.proofs.operands.operand_fault.Goals as goal

pub returns-then-lacks_operands : goal.returns-then-lacks_operands
returns-then-lacks_operands g c =
    sym (no_fault (spot_between (g.V.View.cells c.args.x.now.row.now) (option_map g.V.View.cells c.args.next.now))
    (c.lacks_operands.ensures c.if-lacks_operands.true))
