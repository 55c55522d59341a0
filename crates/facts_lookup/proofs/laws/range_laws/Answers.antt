use Rattle.facts_lookup.proofs.RangeLaw.{shows, zeros_of}
use Rattle.facts_lookup.proofs.laws.range_laws.Goals as goal

pub returns-clause-shows : goal.returns-clause-shows
returns-clause-shows c = shows

pub returns-clause-zeros : goal.returns-clause-zeros
returns-clause-zeros c = zeros_of
