use Rattle.std.proofs.Common.{◌≡◌, ◌++◌}
use Rattle.checker.specs.Counting.{AreRowsCounted}
use Rattle.checker.specs.RowCounts.{first_counts}
use Rattle.checker.specs.Settings.{claim_in}
use Rattle.checker.proofs.row_counts.count_table.Given as goal

-- the rows so far were counted, and those of them that ask or give the tuple stand behind what was there
abbrev pub invariant-loop-row : goal.invariant-loop-row
invariant-loop-row l = record {
  counted : AreRowsCounted (claim_in l.setting) l.trace l.name 0 l.row l.initial.tallies l.tallies;
  rows : l.rows.items ≡ l.initial.rows.items ++ first_counts (claim_in l.setting) l.trace l.sought.bus l.sought.tuple.now l.name l.row;
}
