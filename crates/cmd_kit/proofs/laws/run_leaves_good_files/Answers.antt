use Rattle.cmd_kit.proofs.CompleteLaw.{run_leaves_good_files}
use Rattle.cmd_kit.proofs.laws.run_leaves_good_files.Goals as goal

pub returns : goal.returns
returns c = run_leaves_good_files
