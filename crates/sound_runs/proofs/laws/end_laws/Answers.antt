use Rattle.sound_runs.proofs.CyclesLaw.{ends_law}
use Rattle.sound_runs.proofs.laws.end_laws.Goals as goal

pub returns : goal.returns
returns c = record { ends = ends_law }
