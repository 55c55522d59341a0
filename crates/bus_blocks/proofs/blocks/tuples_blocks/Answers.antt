-- By the row's operation.
use Rattle.bus_blocks.proofs.BlockLemmas.{block_ends, block_starts, no_block}
use Rattle.bus_kit.specs.Widths.{tallied}
use Rattle.bus_blocks.proofs.blocks.tuples_blocks.Goals as goal

pub returns-then-is_end : goal.returns-then-is_end
returns-then-is_end g c = block_ends _ _ _ _ _ _ _ _ c.requires.op c.if-is_end.ensures c.ended.ensures c.ask.ensures

pub returns-then-is_start : goal.returns-then-is_start
returns-then-is_start g c = block_starts _ _ _ _ _ _ _ _ c.requires.op c.if-is_end.ensures c.if-is_start.ensures c.started.ensures c.give.ensures

pub returns-else-is_start : goal.returns-else-is_start
returns-else-is_start g c = no_block 1 (tallied c.args.tally.now) _ _ c.args.op c.requires.op c.if-is_end.ensures c.if-is_start.ensures
