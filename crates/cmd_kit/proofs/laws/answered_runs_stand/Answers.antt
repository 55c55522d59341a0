use Rattle.cmd_kit.proofs.RunsLaw.{answered_runs_stand}
use Rattle.cmd_kit.proofs.laws.answered_runs_stand.Goals as goal

pub returns : goal.returns
returns c = answered_runs_stand
