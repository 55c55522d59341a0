use Rattle.table_file.proofs.Words.{◌≡◌, ◌-◌, ◌<◌, ◌≤◌, ◌++◌, drop, length, table_bytes}
use Rattle.table_file.proofs.writing.add_table.Given as goal

-- the rows so far are in the room
abbrev pub invariant-loop-next : goal.invariant-loop-next
invariant-loop-next g l = record {
  from : l.first ≤ l.next;
  to : l.next ≤ length l.table;
  given : table_bytes (drop l.first l.table) ≡ l.room.items ++ table_bytes (drop l.next l.table);
  some : 1 ≤ g.row.W → l.first < l.next → 0 < length l.room.items;
}

abbrev pub decreases-loop-next : goal.decreases-loop-next
decreases-loop-next g l = length l.table - l.next
