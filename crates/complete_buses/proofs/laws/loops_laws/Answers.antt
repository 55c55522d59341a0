use Rattle.complete_buses.proofs.LoopLaw.{loops_even}
use Rattle.complete_buses.proofs.laws.loops_laws.Goals as goal

pub returns : goal.returns
returns c = record { loops = loops_even }
