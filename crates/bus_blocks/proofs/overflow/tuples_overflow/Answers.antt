-- By the shift of the row's operation.
use Rattle.bus_blocks.proofs.CellLemmas.{cell_comes, cell_goes, condition_goes, no_cell}
use Rattle.bus_kit.specs.Widths.{tallied}
use Rattle.bus_blocks.proofs.overflow.tuples_overflow.Goals as goal

pub returns-in-Right : goal.returns-in-Right
returns-in-Right g c = cell_goes _ _ _ _ _ _ _ _ c.requires.op c.in-Right.ensures c.going.ensures c.give.ensures

pub returns-in-Left : goal.returns-in-Left
returns-in-Left g c = cell_comes _ _ _ _ _ _ _ c.requires.op c.in-Left.ensures c.come_back.ensures

pub returns-then-leaves_loop : goal.returns-then-leaves_loop
returns-then-leaves_loop g c =
    condition_goes _ _ _ _ _ _ _ c.requires.op c.in-Stay.ensures c.if-leaves_loop.ensures c.come_back-then-leaves_loop.ensures

pub returns-else-leaves_loop : goal.returns-else-leaves_loop
returns-else-leaves_loop g c = no_cell 1 (tallied c.args.tally.now) _ _ c.args.op c.requires.op c.in-Stay.ensures c.if-leaves_loop.ensures
