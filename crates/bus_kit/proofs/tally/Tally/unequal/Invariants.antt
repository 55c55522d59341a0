use Rattle.std.proofs.Common.{◌≡◌, None, fold}
use Rattle.bus_kit.specs.Scanning.{scanned}
use Rattle.bus_kit.proofs.tally.Tally.unequal.Given as goal

abbrev pub invariant-loop-tuple : goal.invariant-loop-tuple
invariant-loop-tuple g l = fold scanned l.best l.tuple-iterator ≡ fold scanned None l.self.both.entries
