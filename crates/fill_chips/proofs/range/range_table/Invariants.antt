use Rattle.fill_chips.proofs.Words.{◌≡◌, ◌-◌, ◌≤◌, ◌++◌, length, limbs_in, range_rows, rows_from}
use Rattle.fill_chips.proofs.range.range_table.Given as goal

abbrev pub invariant-loop-v : goal.invariant-loop-v
invariant-loop-v l = record {
  low : l.v ≤ 65535;
  turns : length l.table ≤ l.v;
  rows : l.table ++ rows_from (65535 - length l.table) (l.asked ++ limbs_in l.memory) l.v ≡ range_rows (l.asked ++ limbs_in l.memory);
}

abbrev pub decreases-loop-v : goal.decreases-loop-v
decreases-loop-v l = 65535 - l.v
