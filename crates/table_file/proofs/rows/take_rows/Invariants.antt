use Rattle.table_file.proofs.Words.{ReadsRows}
use Rattle.table_file.proofs.rows.take_rows.Given as goal

-- the rows so far
abbrev pub invariant-loop-left : goal.invariant-loop-left
invariant-loop-left g l = ReadsRows g.row.W l.at l.bytes l.fn.left l.left l.fn.table l.table l.used

abbrev pub decreases-loop-left : goal.decreases-loop-left
decreases-loop-left g l = l.left
