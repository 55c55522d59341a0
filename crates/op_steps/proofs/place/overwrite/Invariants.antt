use Rattle.std.proofs.Common.{◌≡◌, ◌++◌, take, drop}
use Rattle.op_steps.proofs.place.overwrite.Given as goal

abbrev pub invariant-loop-j : goal.invariant-loop-j
invariant-loop-j l = l.state ≡ record l.initial.state { stack = take l.j l.cells ++ drop l.j l.initial.state.stack }
