use Rattle.std.proofs.Common.{◌≡◌, ◌*◌, ◌^◌, take}
use Rattle.std.specs.List.{flat_map}
use Rattle.air_kit.specs.Tables.{every_table}
use Rattle.checker.specs.Counting.{AreWithin}
use Rattle.checker.specs.RowCounts.{table_counts}
use Rattle.checker.specs.Settings.{claim_in}
use Rattle.checker.proofs.row_counts.count_tables.Given as goal

-- the counts of the tables so far
abbrev pub invariant-loop-name : goal.invariant-loop-name
invariant-loop-name l = record {
  rows : l.rows.items ≡ flat_map (table_counts (claim_in l.setting) l.trace l.sought.bus l.sought.tuple.now) (take l.name-index every_table);
  room : AreWithin (l.name-index * 2 ^ 90) l.tallies;
}
