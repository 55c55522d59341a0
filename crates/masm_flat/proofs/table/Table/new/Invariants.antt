use Rattle.masm_flat.proofs.Words.{◌≡◌, length}
use Rattle.masm_flat.proofs.table.Table.new.Given as goal

abbrev pub invariant-loop : goal.invariant-loop
invariant-loop l = length l.lists.items ≡ l.counter
