use Rattle.std.proofs.Common.{ap, ◌∙◌, arith}
use Rattle.rpo_hash.specs.Constants.{constants_of}
use Rattle.vm_field.specs.Sponge.{begun, hashed, sponge_after, squeezed}
use Rattle.rpo_hash.proofs.Lists.{whole}
use Rattle.rpo_hash.proofs.sponge.digest_of.Goals as goal

pub returns : goal.returns
unfolding hashed
returns c =
    let blocks = c.args.blocks.now in
    c.digest.ensures
    ∙ ap squeezed
    (c.loop-block.invariant.state ∙ ap (sponge_after (constants_of c.args.params.now) (begun c.args.domain))
    (whole c.loop-block.block-index blocks (omega arith)))
