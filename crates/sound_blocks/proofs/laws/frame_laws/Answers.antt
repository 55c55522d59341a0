use Rattle.sound_blocks.proofs.FrameLaw.{frames_granted}
use Rattle.sound_blocks.proofs.laws.frame_laws.Goals as goal

pub returns : goal.returns
returns c = record { frames = frames_granted }
