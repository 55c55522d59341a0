use Rattle.std.proofs.Common.{◌≡◌, ◌+◌, ◌≤◌, length}
use Rattle.checker.specs.FaultRows.{kept_with, row_faults}
use Rattle.checker.specs.Settings.{claim_in}
use Rattle.checker.proofs.fault_rows.add_table.Given as goal

-- the rows so far are counted, and the first ones kept
abbrev pub invariant-loop-row : goal.invariant-loop-row
invariant-loop-row l = record {
  told : l.faults.told.items ≡ kept_with l.most l.initial.faults.told.items (row_faults (claim_in l.setting) l.trace l.name 0 l.row);
  rows : l.faults.rows ≡ l.initial.faults.rows + length (row_faults (claim_in l.setting) l.trace l.name 0 l.row);
  few : l.faults.rows ≤ l.initial.faults.rows + l.row;
}
