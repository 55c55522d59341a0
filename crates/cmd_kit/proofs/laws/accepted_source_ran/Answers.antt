use Rattle.cmd_kit.proofs.SourceLaw.{accepted_source_ran}
use Rattle.cmd_kit.proofs.laws.accepted_source_ran.Goals as goal

pub returns : goal.returns
returns c = accepted_source_ran
