use Rattle.air_decoder.proofs.QuickLemmas.{row_clean}
use Rattle.air_decoder.proofs.quick.is_clean.Goals as goal

pub returns-then-is_step : goal.returns-then-is_step
returns-then-is_step g c = λ is.
    row_clean _ _ c.in-Some.op ((c.operation.ensures c.in-Some.op).0 c.in-Some.is)
    (c.is_plain.ensures c.if-is_plain.true) (c.is_step.ensures c.if-is_step.true) (c.is_group_clean.ensures is)

pub is_batch_clean-requires : goal.is_batch_clean-requires
is_batch_clean-requires g c = (c.operation.ensures c.in-Some.op).0 c.in-Some.is
