-- No cell comes at depth sixteen.
use Rattle.bus_blocks.proofs.CellLemmas.{none_comes}
use Rattle.bus_kit.specs.Widths.{tallied}
use Rattle.bus_blocks.proofs.overflow.come_back.Goals as goal

pub returns-then-eq : goal.returns-then-eq
returns-then-eq g c =
    let x = g.V.View.cells c.args.x.now in
    let y = g.V.View.cells c.args.y.now in
    none_comes (tallied c.args.tally.now) x y _ _ c.depth.ensures.is c.from_u32.ensures c.if-eq.ensures
