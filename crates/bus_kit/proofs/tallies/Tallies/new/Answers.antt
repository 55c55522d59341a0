-- Each bus's tally is new.
use Rattle.buses.specs.declared.bus.Bus.TheVariants as bus
use Rattle.bus_kit.proofs.tallies.Tallies.new.Goals as goal

pub returns : goal.returns
returns c bus.Blocks = c.new.ensures
returns c bus.Children = c.new-2.ensures
returns c bus.Loops = c.new-3.ensures
returns c bus.Groups = c.new-4.ensures
returns c bus.Overflow = c.new-5.ensures
returns c bus.Hasher = c.new-6.ensures
returns c bus.Bitwise = c.new-7.ensures
returns c bus.Memory = c.new-8.ensures
returns c bus.Range = c.new-9.ensures
returns c bus.Kernel = c.new-10.ensures
