-- The row's tuple was given.
use Rattle.buses.specs.declared.bus.Bus.TheVariants as bus
use Rattle.bus_chips.proofs.TableLemmas.{bitwise_counted}
use Rattle.bus_chips.proofs.bitwise.tuples_bitwise.Goals as goal

pub operation-requires : goal.operation-requires
operation-requires g c = c.requires bus.Bitwise

pub returns : goal.returns
returns g c = bitwise_counted _ _ _ _ c.args.tallies.now c.operation.new.tally c.operation.result c.operation.ensures
