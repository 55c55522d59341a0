use Rattle.facts_main.proofs.DynFacts.{dyn_means}
use Rattle.facts_main.proofs.laws.dyn_laws.Goals as goal

pub returns : goal.returns
returns c = record { shows = λ op p r. (dyn_means op p r).shown; zeros = λ op p r. (dyn_means op p r).zeros }
