use Rattle.std.proofs.Common.{sym, ap}
use Rattle.show_constraints.specs.BusWords.{bus_words}
use Rattle.show_constraints.proofs.bus_words.bus_words.Goals as goal

-- the search stops before it has compared these words
pub returns-in-Groups : goal.returns-in-Groups
returns-in-Groups c = sym (ap bus_words c.in-Groups.is)
