use Rattle.masm_tables.proofs.Words.{◌≡◌, length}
use Rattle.masm_tables.proofs.sizing.empty_sizes.Given as goal

abbrev pub invariant-loop : goal.invariant-loop
invariant-loop l = length l.sizes.items ≡ l.counter
