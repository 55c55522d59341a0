use Rattle.masm_uses.proofs.Words.{◌≡◌, true, false, slice_index_or, AmongFirst, IsReturn, FindsLeast}
use Rattle.masm_uses.proofs.recursion.first_return.Given as goal

abbrev pub invariant-loop-link : goal.invariant-loop-link
invariant-loop-link l = FindsLeast (AmongFirst (λ place link. IsReturn (λ q. slice_index_or l.marks q false ≡ true) link) l.row l.link-index) l.first
