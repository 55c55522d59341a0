use Rattle.bus_kit.specs.Singles.{AreAlikeBelow}
use Rattle.bus_kit.proofs.values.first_apart.Given as goal

abbrev pub invariant-loop-place : goal.invariant-loop-place
invariant-loop-place l = AreAlikeBelow l.small l.place
