use Rattle.checker.specs.Answers.{AreZeroBelow}
use Rattle.checker.specs.Pieces.{ends_at, starts_at}
use Rattle.checker.specs.Settings.{claim_in}
use Rattle.checker.proofs.rows.first_fault.Given as goal

abbrev pub invariant-loop-name : goal.invariant-loop-name
invariant-loop-name l = AreZeroBelow (claim_in l.setting) l.trace (starts_at l.trace l.part) (ends_at l.trace l.part) l.name-index
