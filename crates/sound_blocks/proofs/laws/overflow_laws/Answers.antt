use Rattle.sound_blocks.proofs.Keys.{key_law}
use Rattle.sound_blocks.proofs.OverflowLaw.{chain_law, overflow_law}
use Rattle.sound_blocks.proofs.laws.overflow_laws.Goals as goal

pub returns : goal.returns
returns c = record { overflow = overflow_law; chains = chain_law; keys = key_law }
