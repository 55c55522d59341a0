use Rattle.std.proofs.Common.{length}
use Rattle.show_constraints.proofs.terms.+term_in.Given as goal

abbrev pub decreases-term_in : goal.decreases-term_in
decreases-term_in l = length l.terms.now
