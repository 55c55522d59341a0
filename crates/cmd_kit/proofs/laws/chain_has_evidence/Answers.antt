use Rattle.cmd_kit.proofs.ChainLaw.{chain_has_evidence}
use Rattle.cmd_kit.proofs.laws.chain_has_evidence.Goals as goal

pub returns : goal.returns
returns c = chain_has_evidence
