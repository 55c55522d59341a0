use Rattle.masm_uses.proofs.Words.{AmongFirst, LeadsNowhere, FindsLeast}
use Rattle.masm_uses.proofs.missing.first_missing.Given as goal

abbrev pub invariant-loop-link : goal.invariant-loop-link
invariant-loop-link l = FindsLeast (AmongFirst (λ place link. LeadsNowhere link) l.row l.link-index) l.first
