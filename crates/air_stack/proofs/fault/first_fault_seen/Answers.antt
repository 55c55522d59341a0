use Rattle.std.proofs.Common.{ap, refl}
use Rattle.air_kit.specs.Rows.{spot_at}
use Rattle.air_stack.proofs.QuickLemmas.{moved_answer}
use Rattle.air_stack.proofs.fault.first_fault_seen.Goals as goal

pub returns-then-is_moved : goal.returns-then-is_moved
returns-then-is_moved g c =
    moved_answer (spot_at g.V.View.cells c.args.place.now) (g.V.View.cells c.args.x.now.row.now) _ _
    (ap g.V.View.cells c.requires) refl (c.is_moved.ensures c.if-is_moved.true) c.operand_fault.ensures
