use Rattle.std.proofs.Common.{ℕ, ◌<◌, ◌≤◌}
use Rattle.checker.specs.Answers.{IsZeroRow}
use Rattle.checker.specs.Settings.{claim_in}
use Rattle.checker.proofs.rows.table_fault.Given as goal

abbrev pub invariant-loop-row : goal.invariant-loop-row
invariant-loop-row l = (row : ℕ) → l.start ≤ row → row < l.row → IsZeroRow (claim_in l.setting) l.trace l.name row
