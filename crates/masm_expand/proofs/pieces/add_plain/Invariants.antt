use Rattle.std.proofs.Common.{◌≡◌, ◌++◌, drop}
use Rattle.masm_expand.specs.Expansion.{plain}
use Rattle.masm_expand.proofs.pieces.add_plain.Given as goal

abbrev pub invariant-loop-operation : goal.invariant-loop-operation
invariant-loop-operation l =
    l.items ++ plain (drop l.operation-index l.operations) ≡ l.initial.items ++ plain l.operations
