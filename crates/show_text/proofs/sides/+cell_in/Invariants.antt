use Rattle.std.proofs.Common.{length}
use Rattle.show_text.proofs.sides.+cell_in.Given as goal

abbrev pub decreases-cell_in : goal.decreases-cell_in
decreases-cell_in l = length l.sides.now
