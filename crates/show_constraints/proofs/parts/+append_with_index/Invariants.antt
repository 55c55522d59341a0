use Rattle.std.proofs.Common.{length}
use Rattle.show_constraints.proofs.parts.+append_with_index.Given as goal

abbrev pub decreases-append_with_index : goal.decreases-append_with_index
decreases-append_with_index l = length l.pieces.now
