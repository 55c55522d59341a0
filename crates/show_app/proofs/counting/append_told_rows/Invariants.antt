use Rattle.std.proofs.Common.{◌≡◌, ◌≤◌, ◌++◌, drop}
use Rattle.show_app.specs.CountedText.{told_rows}
use Rattle.show_app.proofs.counting.append_told_rows.Given as goal

-- the text so far, in front of that of the rest, is that of all rows
abbrev pub invariant-loop-row : goal.invariant-loop-row
invariant-loop-row l = record {
  goes : l.text ++ told_rows l.trace l.asking l.giving (drop l.row-index l.rows) ≡ l.initial.text ++ told_rows l.trace 0 0 l.rows;
  asking : l.asking ≤ l.row-index;
  giving : l.giving ≤ l.row-index;
}
