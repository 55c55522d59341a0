use Rattle.source_check.proofs.SourceLemmas.{ran-is-source}
use Rattle.source_check.proofs.laws.source_laws.Goals as goal

pub returns : goal.returns
returns c = record { same = ran-is-source }
