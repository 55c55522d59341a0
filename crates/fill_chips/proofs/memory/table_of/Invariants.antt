use Rattle.fill_chips.proofs.Words.{◌≡◌, ◌++◌, take, drop, All, IsSmallAccess}
use Rattle.facts_memory.specs.AccessRows.{rows_behind, rows_of_accesses}
use Rattle.fill_chips.proofs.memory.table_of.Given as goal

abbrev pub invariant-loop-access : goal.invariant-loop-access
invariant-loop-access l = record {
  rows : l.table ++ rows_behind l.before (drop l.access-index l.sorted) ≡ rows_of_accesses l.sorted;
  small : All IsSmallAccess (take l.access-index l.sorted);
}
