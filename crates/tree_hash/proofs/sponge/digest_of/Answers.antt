use Rattle.std.proofs.Common.{ap, ◌∙◌, arith}
use Rattle.vm_field.specs.Sponge.{begun, hashed, sponge_after, squeezed}
use Rattle.rpo_hash.proofs.Lists.{whole}
use Rattle.tree_hash.proofs.sponge.digest_of.Goals as goal

pub returns-clause-digest : goal.returns-clause-digest
unfolding hashed
returns-clause-digest c =
    let blocks = c.args.blocks.now in
    c.squeezed.ensures
    ∙ ap squeezed
    (c.loop-block.invariant.state ∙ ap (sponge_after c.args.permutations.now (begun c.args.domain))
    (whole c.loop-block.block-index blocks (omega arith)))
