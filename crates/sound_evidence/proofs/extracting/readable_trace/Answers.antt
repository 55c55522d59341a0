use Rattle.sound_evidence.proofs.Readable.{readable}
use Rattle.sound_evidence.proofs.extracting.readable_trace.Goals as goal

pub returns : goal.returns
returns c = readable c.args._public.now c.args._trace.now c.requires
