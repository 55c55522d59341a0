use Rattle.std.proofs.Common.{◌≡◌, ◌++◌, length}
use Rattle.vm_io.proofs.gathering.gather.Given as goal

-- what came so far, and what is left
abbrev pub invariant-loop-room : goal.invariant-loop-room
invariant-loop-room g l = g.P.Pieces.rest l.fn.pieces ≡ l.bytes ++ g.P.Pieces.rest l.pieces

abbrev pub decreases-loop-room : goal.decreases-loop-room
decreases-loop-room g l = length (g.P.Pieces.rest l.pieces)
