use Rattle.masm_uses.proofs.Words.{◌≡◌, true, false, get_or, rows_of, Among, AmongFirst, FindsLeast, IsRefusedDynexec}
use Rattle.masm_uses.proofs.dispatch.first_marked.Given as goal

abbrev pub invariant-loop-place : goal.invariant-loop-place
invariant-loop-place l =
    FindsLeast (AmongFirst (λ place row. Among (λ k dynexec. IsRefusedDynexec (get_or l.marks place false ≡ true) dynexec) row)
    (rows_of l.rows) l.place) l.first
