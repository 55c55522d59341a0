use Rattle.facts_steps.proofs.NumberLaw.{numbers_shown}
use Rattle.facts_steps.proofs.laws.number_laws.Goals as goal

pub returns : goal.returns
returns c = record { numbers = numbers_shown }
