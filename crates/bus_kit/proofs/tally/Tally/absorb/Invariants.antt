use Rattle.bus_kit.specs.Absorbing.{IsAbsorbed}
use Rattle.bus_kit.specs.Widths.{tallied}
use Rattle.bus_kit.proofs.tally.Tally.absorb.Given as goal

abbrev pub invariant-loop-tuple : goal.invariant-loop-tuple
invariant-loop-tuple g l = IsAbsorbed (tallied l.self) l.tuple-iterator (tallied l.fn.self) (tallied l.other)
