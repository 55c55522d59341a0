use Rattle.std.proofs.Common.{◌≡◌, ◌-◌, ◌++◌, replicate}
use Rattle.masm_expand.specs.Expansion.{plain}
use Rattle.masm_expand.proofs.pieces.add_times.Given as goal

abbrev pub invariant-loop : goal.invariant-loop
invariant-loop l =
    l.items ++ plain (replicate (l.times - l.counter) l.operation) ≡ l.initial.items ++ plain (replicate l.times l.operation)
