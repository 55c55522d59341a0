-- The statement's digest and its deep inputs, and behind them what the row gives with the one behind it.
use Rattle.air_kit.specs.Rows.{claim_at}
use Rattle.buses.specs.declared.bus.Bus.TheVariants as bus
use Rattle.bus_main.proofs.StepLemmas.{have_space, placed_done, placed_last}
use Rattle.bus_main.proofs.place.tuples.Goals as goal

pub outermost-requires : goal.outermost-requires
outermost-requires g c = c.requires.room bus.Children

pub deepest-requires : goal.deepest-requires
deepest-requires g c = c.requires.room bus.Overflow

pub step-requires-clause-room : goal.step-requires-clause-room
step-requires-clause-room g c = have_space c.args.tallies.now c.outermost.new.tally c.deepest.new.tally _ _ c.requires.room c.in_ok-outermost.ensures c.in_ok-deepest.ensures

pub returns-in-Some : goal.returns-in-Some
returns-in-Some g c =
    rw c.in-Some.is
    (placed_done (claim_at c.args.place.now) (g.V.View.cells c.args.place.now.cur) (g.V.View.cells c.in-Some.next)
    c.args.place.now.row c.args.tallies.now
    c.outermost.new.tally c.deepest.new.tally c.step.new.tallies c.step.result c.in_ok-outermost.ensures c.in_ok-deepest.ensures c.step.ensures)

pub returns-in-None : goal.returns-in-None
returns-in-None g c =
    rw c.in-None.is
    (placed_last (claim_at c.args.place.now) (g.V.View.cells c.args.place.now.cur) c.args.place.now.row
    c.args.tallies.now c.outermost.new.tally c.deepest.new.tally
    c.in_ok-outermost.ensures c.in_ok-deepest.ensures)
