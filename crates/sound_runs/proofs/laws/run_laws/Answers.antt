use Rattle.sound_runs.proofs.TreeRuns.{trees_run}
use Rattle.sound_runs.proofs.laws.run_laws.Goals as goal

pub returns : goal.returns
returns c = record { runs = trees_run }
