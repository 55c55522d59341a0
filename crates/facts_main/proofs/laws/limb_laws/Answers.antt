use Rattle.facts_main.proofs.LimbFacts.{limb_means}
use Rattle.facts_main.proofs.laws.limb_laws.Goals as goal

pub returns : goal.returns
returns c = record { shows = λ op p r. (limb_means op p r).shown; zeros = λ op p r. (limb_means op p r).zeros }
