use Rattle.facts_main.proofs.RunFacts.{nothing_left, op_is, shifts_left_is}
use Rattle.facts_main.proofs.laws.reading_laws.Goals as goal

pub returns : goal.returns
returns c = record { operation = op_is; group = nothing_left; left = shifts_left_is }
