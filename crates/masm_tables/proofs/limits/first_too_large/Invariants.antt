use Rattle.masm_tables.proofs.Words.{Some, size_at, extent_of, procedure_of, FindsLeast, position_of, ExceedsLimit}
use Rattle.masm_names.specs.Among.{AmongFirst}
use Rattle.masm_tables.proofs.limits.first_too_large.Given as goal

abbrev pub invariant-loop-place : goal.invariant-loop-place
invariant-loop-place l = FindsLeast (AmongFirst (λ place p. ExceedsLimit (position_of (procedure_of p)) (extent_of (size_at l.sizes
    (Some place)))) l.procs l.place) l.first
