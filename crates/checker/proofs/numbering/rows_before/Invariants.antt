use Rattle.std.proofs.Common.{◌≡◌, ◌*◌, ◌^◌, ◌≤◌}
use Rattle.checker.specs.Pieces.{rows_before}
use Rattle.checker.proofs.numbering.rows_before.Given as goal

abbrev pub invariant-loop-i : goal.invariant-loop-i
invariant-loop-i l = (l.rows ≡ rows_before l.trace l.i) × (l.rows ≤ l.i * 2 ^ 22)
