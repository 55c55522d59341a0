use Rattle.std.proofs.Common.{◌≡◌, ◌++◌, drop}
use Rattle.masm_expand.specs.Expansion.{plain}
use Rattle.std_u64.proofs.list.add.Given as goal

abbrev pub invariant-loop-operation : goal.invariant-loop-operation
invariant-loop-operation l =
    l.items ++ plain (drop l.operation-index l.more) ≡ l.initial.items ++ plain l.more
