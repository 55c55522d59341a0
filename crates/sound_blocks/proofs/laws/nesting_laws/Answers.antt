use Rattle.sound_blocks.proofs.NestingLaw.{nesting_granted}
use Rattle.sound_blocks.proofs.laws.nesting_laws.Goals as goal

pub returns : goal.returns
returns c = record { nesting = nesting_granted }
