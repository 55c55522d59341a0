use Rattle.air_decoder.proofs.QuickLemmas.{outside_clean}
use Rattle.air_decoder.proofs.quick.is_block_clean.Goals as goal

pub returns-then-is_outside : goal.returns-then-is_outside
returns-then-is_outside g c = λ is.
    outside_clean _ _ c.args.op c.requires.has c.requires.no_batch
    (c.is_outside.ensures c.if-is_outside.true) (c.has_block.ensures is)
