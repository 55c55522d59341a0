use Rattle.std.proofs.Common.{ap}
use Rattle.air_kit.specs.Rows.{spot_at}
use Rattle.air_stack.proofs.PartLemmas.{answer_joins}
use Rattle.air_stack.proofs.fault.fault_by_entries.Goals as goal

pub returns : goal.returns
returns g c =
    answer_joins (spot_at g.V.View.cells c.args.place.now) (g.V.View.cells c.args.x.now.row.now) _ _ _ _ _
    (ap g.V.View.cells c.requires)
    c.depth_fault-depth.ensures c.cell_fault-cells.ensures c.operand_fault-operands.ensures c.or_next.ensures c.or_next-2.ensures
