use Rattle.cmd_kit.proofs.RunLaw.{answered_run_stands}
use Rattle.cmd_kit.proofs.laws.answered_run_stands.Goals as goal

pub returns : goal.returns
returns c = answered_run_stands
