use Rattle.fill_requests.proofs.Elements.{block_in_rate}
use Rattle.fill_requests.proofs.perms.absorbing.Goals as goal

pub returns : goal.returns
returns c =
    block_in_rate c.args.state.now c.args.block.now c.index-state-0.result c.index-state-1.result c.index-state-2.result c.index-state-3.result
    c.index-block-0.result c.index-block-1.result c.index-block-2.result c.index-block-3.result
    c.index-block-4.result c.index-block-5.result c.index-block-6.result c.index-block-7.result c.told-state c.told-block
