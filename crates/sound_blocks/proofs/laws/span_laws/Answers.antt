use Rattle.sound_blocks.proofs.SpanLaw.{span_law}
use Rattle.sound_blocks.proofs.laws.span_laws.Goals as goal

pub returns : goal.returns
returns c = record { spans = span_law }
