-- By the row's operation.
use Rattle.std.proofs.Common.{lit≤}
use Rattle.bus_blocks.proofs.TwoLemmas.{wider}
use Rattle.bus_main.proofs.LookupLemmas.{limbs_asked, nesting_asked}
use Rattle.bus_main.proofs.range.tuples_range.Goals as goal

pub returns-then-is_start : goal.returns-then-is_start
returns-then-is_start g c =
    let x = g.V.View.cells c.args.x.now in
    let y = g.V.View.cells c.args.y.now in
    wider 1 16 _ _ _ _ _ (lit≤ tt)
    (nesting_asked _ _ _ _ x y c.args.op _ c.requires.op c.if-is_start.ensures c.nesting_left.ensures c.ask.ensures)

pub returns-else-is_start : goal.returns-else-is_start
returns-else-is_start g c =
    let x = g.V.View.cells c.args.x.now in
    let y = g.V.View.cells c.args.y.now in
    limbs_asked _ _ _ _ x y c.args.op _ c.requires.op c.if-is_start.ensures c.limbs_of.ensures.is c.ask_limbs.ensures
