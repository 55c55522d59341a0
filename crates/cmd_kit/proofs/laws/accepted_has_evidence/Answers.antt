use Rattle.cmd_kit.proofs.EvidenceLaw.{accepted_has_evidence}
use Rattle.cmd_kit.proofs.laws.accepted_has_evidence.Goals as goal

pub returns : goal.returns
returns c = accepted_has_evidence
