use Rattle.bus_kit.specs.Placing.{IsAddedBelow}
use Rattle.bus_kit.proofs.absorbing.add_places.Given as goal

abbrev pub invariant-loop-v : goal.invariant-loop-v
invariant-loop-v l = IsAddedBelow l.v l.fn.small l.other l.small
