use Rattle.facts_main.proofs.BatchFacts.{batch_row, half_used}
use Rattle.facts_main.proofs.laws.batch_laws.Goals as goal

pub returns : goal.returns
returns c = record { room = batch_row; needed = half_used }
