use Rattle.facts_main.proofs.RunFacts.{clock_is, halts_last}
use Rattle.facts_main.proofs.laws.clock_laws.Goals as goal

pub returns : goal.returns
returns c = record { clock = clock_is; halt = halts_last }
