use Rattle.air_decoder.proofs.FaultLemmas.{span_joined}
use Rattle.air_decoder.proofs.spans.span_faults.Goals as goal

pub returns : goal.returns
returns g c = span_joined _ _ _ _ c.batch_faults-batch.ensures c.group_faults-group.ensures c.or_next.ensures
