use Rattle.facts_steps.proofs.Fills.{step_fills}
use Rattle.facts_steps.proofs.laws.fill_laws.Goals as goal

pub returns : goal.returns
returns c = record { fills = step_fills }
