use Rattle.masm_uses.proofs.Words.{AmongFirst, Missing, rows_of, FindsLeast}
use Rattle.masm_uses.proofs.missing.first_missing_of.Given as goal

abbrev pub invariant-loop-row : goal.invariant-loop-row
invariant-loop-row l = FindsLeast (AmongFirst (λ place row. Missing row) (rows_of l.rows) l.row-index) l.first
