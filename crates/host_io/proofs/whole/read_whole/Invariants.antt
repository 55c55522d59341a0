use Rattle.std.proofs.Common.{◌+◌, ◌-◌, ◌≤◌, length}
use Rattle.std.specs.Io.KnownBytes.{Consumes}
use Rattle.host_io.proofs.whole.read_whole.Given as goal

-- what came so far, and one byte more than is wanted at most
abbrev pub invariant-loop-piece : goal.invariant-loop-piece
invariant-loop-piece g l = record {
  within : length l.bytes ≤ l.max + 1;
  consumed : Consumes (g.R.Read.remaining l.fn.source) (g.R.Read.remaining l.source) l.bytes;
}

abbrev pub decreases-loop-piece : goal.decreases-loop-piece
decreases-loop-piece g l = l.max + 1 - length l.bytes
