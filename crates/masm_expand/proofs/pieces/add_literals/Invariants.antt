use Rattle.std.proofs.Common.{◌≡◌, ◌++◌, map, drop}
use Rattle.masm_expand.specs.Expansion.{lit}
use Rattle.masm_expand.proofs.pieces.add_literals.Given as goal

abbrev pub invariant-loop-number : goal.invariant-loop-number
invariant-loop-number l =
    l.items ++ map lit (drop l.number-index l.numbers) ≡ l.initial.items ++ map lit l.numbers
