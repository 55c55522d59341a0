use Rattle.facts_steps.proofs.Places.{place_shows}
use Rattle.facts_steps.proofs.Steps.{rows_show}
use Rattle.facts_steps.proofs.laws.step_laws.Goals as goal

pub returns : goal.returns
returns c = record { shows = rows_show; at_place = place_shows }
