use Rattle.std.proofs.Common.{sym, ap}
use Rattle.show_constraints.specs.Words.{rows_of}
use Rattle.show_constraints.proofs.words.rows_of.Goals as goal

pub returns-in-Main : goal.returns-in-Main
unfolding rows_of
returns-in-Main c = sym (ap rows_of c.in-Main.is)
