use Rattle.fill_chips.proofs.Words.{◌≡◌, ◌++◌}
use Rattle.fill_chips.proofs.BitLemmas.{first_rows}
use Rattle.fill_chips.proofs.bitwise.push_operation.Given as goal

abbrev pub invariant-loop-k : goal.invariant-loop-k
invariant-loop-k l = l.table ≡ l.initial.table ++ first_rows l.op l.k
