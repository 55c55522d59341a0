use Rattle.vm_ops.proofs.FrameLemmas.{step-below, step-fmp, step-memory, step-moved, step-same_call, step-tape, step-untouched}
use Rattle.vm_ops.proofs.laws.frame_laws.Goals as goal

pub returns : goal.returns
returns c = record {
  call = step-same_call;
  fmp = step-fmp;
  memory = step-memory;
  tape = step-tape;
  untouched = step-untouched;
  below = step-below;
  moved = step-moved;
}
