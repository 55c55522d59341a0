-- By the row's operation.
use Rattle.std.proofs.Common.{◌^◌, lit≤}
use Rattle.bus_blocks.proofs.BlockLemmas.{loop_begins, loop_goes_on, no_loop, not_loop, not_repeat}
use Rattle.bus_blocks.proofs.TwoLemmas.{wider}
use Rattle.bus_kit.specs.Widths.{tallied}
use Rattle.bus_blocks.proofs.loops.tuples_loops.Goals as goal

pub returns-in-Loop : goal.returns-in-Loop
returns-in-Loop g c =
    let x = g.V.View.cells c.args.x.now in
    let y = g.V.View.cells c.args.y.now in
    loop_begins _ _ _ _ x y c.args.op _ _ c.requires.op c.in-Loop.is c.body.ensures c.w0.ensures.is c.give_times.ensures

pub returns-in-Repeat : goal.returns-in-Repeat
returns-in-Repeat g c =
    let x = g.V.View.cells c.args.x.now in
    let y = g.V.View.cells c.args.y.now in
    wider 1 (2 ^ 64) _ _ _ _ _ (lit≤ tt)
    (loop_goes_on _ _ _ _ x y c.args.op _ c.requires.op c.in-Repeat.is c.body-in-Repeat.ensures c.ask.ensures)

pub returns-in_default : goal.returns-in_default
returns-in_default g c =
    no_loop _ (tallied c.args.tally.now) _ _ c.args.op c.requires.op (not_repeat c.args.op c.in_default.not-Repeat) (not_loop c.args.op c.in_default.not-Loop)
