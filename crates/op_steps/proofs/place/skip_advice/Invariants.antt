use Rattle.std.proofs.Common.{◌≡◌, drop}
use Rattle.op_steps.proofs.place.skip_advice.Given as goal

abbrev pub invariant-loop : goal.invariant-loop
invariant-loop l = l.state ≡ record l.initial.state { tape = drop l.counter l.initial.state.tape }
