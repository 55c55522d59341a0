use Rattle.rpo_hash.proofs.WholeText.{text-read, read-text}
use Rattle.rpo_hash.proofs.laws.parameter_laws.Goals as goal

pub returns : goal.returns
returns c = record { text = λ text constants. (text-read text constants, λ h. read-text text constants h.0 h.1 h.2) }
