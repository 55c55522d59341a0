use Rattle.std.proofs.Common.{length}
use Rattle.host_io.proofs.PieceLemmas.{Going}
use Rattle.host_io.proofs.whole.write_all.Given as goal

-- what was written so far, and what is left
abbrev pub invariant-loop-room : goal.invariant-loop-room
invariant-loop-room g l =
    Going (g.W.Write.contents l.fn.target) (g.W.Write.contents l.target) (g.P.Pieces.rest l.fn.pieces) (g.P.Pieces.rest l.pieces)

abbrev pub decreases-loop-room : goal.decreases-loop-room
decreases-loop-room g l = length (g.P.Pieces.rest l.pieces)
