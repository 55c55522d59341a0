-- The law of frames.
use Rattle.sound_blocks.proofs.Words.{GrantedFrames}
use Rattle.sound_blocks.proofs.OpenBlocks.{address_at, block_at}
use Rattle.sound_blocks.proofs.Levels.{level_at, nested_at}
use Rattle.sound_blocks.proofs.Contexts.{context_at, context_below}

pub frames_granted : GrantedFrames
frames_granted p t g = record {
  address = address_at g.rows g.blocks;
  ends = λ e is. (let found = g.blocks.block e is in (found.0, block_at g.rows g.blocks found.1));
  closed = λ j e closes. block_at g.rows g.blocks closes;
  level = λ i within. (level_at g.rows g.few g.blocks i within).level;
  nesting = nested_at g.rows g.few g.blocks g.ranges;
  context = context_below g.rows g.few g.blocks;
  syscall = λ i within. (context_at g.rows g.few g.blocks i within).syscall;
}
