use Rattle.facts_main.proofs.StackFacts.{stack_means}
use Rattle.facts_main.proofs.laws.stack_laws.Goals as goal

pub returns : goal.returns
returns c = record { shows = λ op p r row. (stack_means op p r row).shown; zeros = λ op p r row. (stack_means op p r row).zeros }
