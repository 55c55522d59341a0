use Rattle.masm_uses.proofs.Words.{AmongFirst, Returns, rows_of, Leads, FindsLeast}
use Rattle.masm_uses.proofs.recursion.first_recursion.Given as goal

abbrev pub invariant-loop-user : goal.invariant-loop-user
invariant-loop-user l = FindsLeast (AmongFirst (λ user row. Returns (Leads (rows_of l.users) user) row) (rows_of l.rows) l.user) l.first
