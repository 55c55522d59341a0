use Rattle.checker.specs.Counting.{AreTablesCounted}
use Rattle.checker.specs.Settings.{claim_in}
use Rattle.checker.proofs.counting.count_tables.Given as goal

abbrev pub invariant-loop-name : goal.invariant-loop-name
invariant-loop-name l = AreTablesCounted (claim_in l.setting) l.trace l.part l.name-index l.tallies
