use Rattle.masm_effects.proofs.SpanLemmas.{operations-agree, operations-within, operations-effect}
use Rattle.masm_effects.proofs.spans.span_laws.Goals as goal

pub returns : goal.returns
returns c = record { agree = operations-agree; within = operations-within; effects = operations-effect }
