-- The row's tuple was given.
use Rattle.buses.specs.declared.bus.Bus.TheVariants as bus
use Rattle.bus_chips.proofs.TableLemmas.{hasher_counted}
use Rattle.bus_chips.proofs.hasher.tuples_hasher.Goals as goal

pub permutation-requires : goal.permutation-requires
permutation-requires g c = c.requires bus.Hasher

pub returns : goal.returns
returns g c = hasher_counted _ _ _ _ c.args.tallies.now c.permutation.new.tally c.permutation.result c.permutation.ensures
