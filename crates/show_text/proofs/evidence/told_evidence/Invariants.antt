use Rattle.std.proofs.Common.{◌≤◌, ◌+◌, length}
use Rattle.show_text.proofs.Told.{Goes}
use Rattle.show_text.proofs.evidence.told_evidence.Given as goal

-- the lines so far, in front of those of the rest, are all lines; each took a byte at least
abbrev pub invariant-loop-rest : goal.invariant-loop-rest
invariant-loop-rest l = record {
  goes : Goes l.bytes l.text l.line l.rest;
  some : 1 ≤ l.line;
  fits : l.line + length l.rest ≤ length l.bytes + 1;
}

abbrev pub decreases-loop-rest : goal.decreases-loop-rest
decreases-loop-rest l = length l.rest
