use Rattle.table_file.proofs.Words.{◌≡◌, ◌-◌, true, [], left_of}
use Rattle.table_file.proofs.writing.add_rows.Given as goal

-- the tables that were passed had no further rows
abbrev pub invariant-loop-table : goal.invariant-loop-table
invariant-loop-table l = record {
  empty : l.room.items ≡ [];
  same : left_of l.trace true l.fn.table l.fn.row ≡ left_of l.trace true l.table l.row;
}

abbrev pub decreases-loop-table : goal.decreases-loop-table
decreases-loop-table l = 7 - l.table
