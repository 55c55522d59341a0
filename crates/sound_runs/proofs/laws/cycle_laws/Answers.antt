use Rattle.sound_runs.proofs.CyclesLaw.{cycles_law}
use Rattle.sound_runs.proofs.laws.cycle_laws.Goals as goal

pub returns : goal.returns
returns c = record { cycles = cycles_law }
