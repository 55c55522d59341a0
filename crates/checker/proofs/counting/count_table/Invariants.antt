use Rattle.checker.specs.Counting.{AreRowsCounted}
use Rattle.checker.specs.Settings.{claim_in}
use Rattle.checker.proofs.counting.count_table.Given as goal

abbrev pub invariant-loop-row : goal.invariant-loop-row
invariant-loop-row l = AreRowsCounted (claim_in l.setting) l.trace l.name l.start l.row l.initial.tallies l.tallies
