use Rattle.complete_buses.proofs.BlockLaw.{blocks_even}
use Rattle.complete_buses.proofs.laws.blocks_laws.Goals as goal

pub returns : goal.returns
returns c = record { blocks = blocks_even }
