use Rattle.std.proofs.Common.{◌≡◌, ◌*◌, ◌^◌, ◌≤◌, [], length, take}
use Rattle.std.specs.List.{flat_map}
use Rattle.air_kit.specs.Tables.{every_table}
use Rattle.checker.specs.FaultRows.{kept_with, table_faults}
use Rattle.checker.specs.Settings.{claim_in}
use Rattle.checker.proofs.fault_rows.faults_by_row.Given as goal

-- the tables so far are counted, and the first rows kept
abbrev pub invariant-loop-name : goal.invariant-loop-name
invariant-loop-name l = record {
  told : l.faults.told.items ≡ kept_with l.most [] (flat_map (table_faults (claim_in l.setting) l.trace) (take l.name-index every_table));
  rows : l.faults.rows ≡ length (flat_map (table_faults (claim_in l.setting) l.trace) (take l.name-index every_table));
  few : l.faults.rows ≤ l.name-index * 2 ^ 22;
}
