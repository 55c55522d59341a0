use Rattle.std.proofs.Common.{◌≤◌, ◌+◌, length}
use Rattle.number_files.proofs.Lines.{Goes}
use Rattle.number_files.proofs.numbers.read_elements.Given as goal

-- the elements so far, in front of those of the rest, are all elements; each took a line
abbrev pub invariant-loop-rest : goal.invariant-loop-rest
invariant-loop-rest l = record {
  goes : Goes l.bytes l.elements.items l.rest;
  fits : length l.elements.items + length l.rest ≤ length l.bytes;
}

abbrev pub decreases-loop-rest : goal.decreases-loop-rest
decreases-loop-rest l = length l.rest
