-- Each bus has what its own function counted.
use Rattle.buses.specs.declared.bus.Bus.TheVariants as bus
use Rattle.bus_main.proofs.StepLemmas.{ordinary_done}
use Rattle.bus_main.proofs.step.ordinary.Goals as goal

pub tuples_groups-requires-clause-room : goal.tuples_groups-requires-clause-room
tuples_groups-requires-clause-room g c = c.requires.room bus.Groups

pub tuples_overflow-requires-clause-room : goal.tuples_overflow-requires-clause-room
tuples_overflow-requires-clause-room g c = c.requires.room bus.Overflow

pub tuples_hasher-requires-clause-room : goal.tuples_hasher-requires-clause-room
tuples_hasher-requires-clause-room g c = c.requires.room bus.Hasher

pub tuples_bitwise-requires-clause-room : goal.tuples_bitwise-requires-clause-room
tuples_bitwise-requires-clause-room g c = c.requires.room bus.Bitwise

pub tuples_memory-requires-clause-room : goal.tuples_memory-requires-clause-room
tuples_memory-requires-clause-room g c = c.requires.room bus.Memory

pub tuples_range-requires-clause-room : goal.tuples_range-requires-clause-room
tuples_range-requires-clause-room g c = c.requires.room bus.Range

pub returns : goal.returns
returns g c =
    let x = g.V.View.cells c.args.x.now in
    let y = g.V.View.cells c.args.y.now in
    ordinary_done x y c.args.op c.requires.op c.args.tallies.now c.requires.ordinary c.tuples_groups.new.tally c.tuples_overflow.new.tally
    c.tuples_hasher.new.tally c.tuples_bitwise.new.tally c.tuples_memory.new.tally c.tuples_range.new.tally c.tuples_range.result
    c.in_ok-tuples_groups.ensures c.in_ok-tuples_overflow.ensures c.in_ok-tuples_hasher.ensures c.in_ok-tuples_bitwise.ensures
    c.in_ok-tuples_memory.ensures
    c.tuples_range.ensures
