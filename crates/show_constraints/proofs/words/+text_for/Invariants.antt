use Rattle.std.proofs.Common.{length}
use Rattle.show_constraints.proofs.words.+text_for.Given as goal

abbrev pub decreases-text_for : goal.decreases-text_for
decreases-text_for l = length l.rows.now
