-- Each bus has what its own function counted.
use Rattle.buses.specs.declared.bus.Bus.TheVariants as bus
use Rattle.bus_main.proofs.StepLemmas.{control_done}
use Rattle.bus_main.proofs.step.control.Goals as goal

pub tuples_blocks-requires-clause-room : goal.tuples_blocks-requires-clause-room
tuples_blocks-requires-clause-room g c = c.requires.room bus.Blocks

pub tuples_children-requires-clause-room : goal.tuples_children-requires-clause-room
tuples_children-requires-clause-room g c = c.requires.room bus.Children

pub tuples_loops-requires-clause-room : goal.tuples_loops-requires-clause-room
tuples_loops-requires-clause-room g c = c.requires.room bus.Loops

pub tuples_groups-requires-clause-room : goal.tuples_groups-requires-clause-room
tuples_groups-requires-clause-room g c = c.requires.room bus.Groups

pub tuples_overflow-requires-clause-room : goal.tuples_overflow-requires-clause-room
tuples_overflow-requires-clause-room g c = c.requires.room bus.Overflow

pub tuples_hasher-requires-clause-room : goal.tuples_hasher-requires-clause-room
tuples_hasher-requires-clause-room g c = c.requires.room bus.Hasher

pub tuples_range-requires-clause-room : goal.tuples_range-requires-clause-room
tuples_range-requires-clause-room g c = c.requires.room bus.Range

pub tuples_kernel-requires-clause-room : goal.tuples_kernel-requires-clause-room
tuples_kernel-requires-clause-room g c = c.requires.room bus.Kernel

pub returns : goal.returns
returns g c =
    let x = g.V.View.cells c.args.x.now in
    let y = g.V.View.cells c.args.y.now in
    control_done x y c.args.op c.requires.op c.args.tallies.now c.requires.control c.tuples_blocks.new.tally
    c.tuples_children.new.tally c.tuples_loops.new.tally
    c.tuples_groups.new.tally c.tuples_overflow.new.tally c.tuples_hasher.new.tally c.tuples_range.new.tally
    c.tuples_kernel.new.tally c.tuples_kernel.result
    c.in_ok-tuples_blocks.ensures c.in_ok-tuples_children.ensures c.in_ok-tuples_loops.ensures c.in_ok-tuples_groups.ensures
    c.in_ok-tuples_overflow.ensures
    c.in_ok-tuples_hasher.ensures c.in_ok-tuples_range.ensures c.tuples_kernel.ensures
