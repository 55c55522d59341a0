use Rattle.masm_names.specs.Among.{AmongFirst}
use Rattle.masm_names.specs.Least.{FindsLeast}
use Rattle.masm_names.specs.Names.{place_at}
use Rattle.masm_names.specs.Repeats.{IsDoubled}
use Rattle.masm_names.proofs.doubles.first_repeat.Given as goal

abbrev pub invariant-loop-place : goal.invariant-loop-place
invariant-loop-place g l =
    FindsLeast (AmongFirst (λ place x. IsDoubled (place_at l.names) (g.T.Named.name x) (g.T.Defined.at x) place) l.items l.place) l.first
