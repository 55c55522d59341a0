use Rattle.air_blocks.proofs.FaultLemmas.{block_joined}
use Rattle.air_blocks.proofs.blocks.block_faults.Goals as goal

pub returns : goal.returns
returns g c =
    block_joined _ _ _ _ _ _ c.follow_faults-follow.ensures c.shown_faults-shown.ensures c.kept_faults-kept.ensures
    c.or_next.ensures c.or_next-2.ensures
