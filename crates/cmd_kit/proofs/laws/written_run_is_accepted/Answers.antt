use Rattle.cmd_kit.proofs.CompleteLaw.{written_run_is_accepted}
use Rattle.cmd_kit.proofs.laws.written_run_is_accepted.Goals as goal

pub returns : goal.returns
returns c = written_run_is_accepted
