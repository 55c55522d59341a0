use Rattle.masm_uses.proofs.Words.{◌≡◌, true, AmongFirst, FindsLeast, IsRefusedDynexec}
use Rattle.masm_uses.proofs.dispatch.first_refused.Given as goal

abbrev pub invariant-loop-at : goal.invariant-loop-at
invariant-loop-at l = FindsLeast (AmongFirst (λ k dynexec. IsRefusedDynexec (l.reached ≡ true) dynexec) l.row l.at-index) l.first
