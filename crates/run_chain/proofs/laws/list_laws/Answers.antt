use Rattle.run_chain.proofs.TextLemmas.{reads-its-text}
use Rattle.run_chain.proofs.laws.list_laws.Goals as goal

pub returns : goal.returns
returns c = record { text = reads-its-text }
