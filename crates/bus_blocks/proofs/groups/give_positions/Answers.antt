-- Behind each position those so far were given.
use Rattle.std.proofs.Common.{refl, ◌∙◌, arith}
use Rattle.bus_blocks.proofs.GroupLemmas.{given_all, given_below_more}
use Rattle.bus_kit.specs.Widths.{tallied}
use Rattle.bus_blocks.proofs.groups.give_positions.Goals as goal

pub loop-q-preserved : goal.loop-q-preserved
loop-q-preserved g c =
    let x = g.V.View.cells c.args.x.now in
    let y = g.V.View.cells c.args.y.now in
    given_below_more x y c.value-count.result c.loop-q.q _ (tallied c.args.tally.now) (tallied c.loop-q.tally) (tallied c.give.new.tally) c.position.result
    c.loop-q-test.true refl c.position.ensures c.in_ok-give.ensures c.loop-q.invariant

pub returns : goal.returns
returns g c =
    let x = g.V.View.cells c.args.x.now in
    let y = g.V.View.cells c.args.y.now in
    given_all x y c.value-count.result c.loop-q.q _ (tallied c.args.tally.now) (tallied c.loop-q.tally)
    (omega arith) (c.value-count.ensures.is ∙ c.positions.ensures) c.requires.batch c.loop-q.invariant
