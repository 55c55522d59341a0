use Rattle.fill_chips.proofs.Words.{◌≡◌, take, rows_of_bits, HaveWords}
use Rattle.fill_chips.proofs.bitwise.bitwise_table.Given as goal

abbrev pub invariant-loop-op : goal.invariant-loop-op
invariant-loop-op l = record {
  rows : l.table ≡ rows_of_bits (take l.op-index l.ops);
  words : HaveWords (take l.op-index l.ops);
}
