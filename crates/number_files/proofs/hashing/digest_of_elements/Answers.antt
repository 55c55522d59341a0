use Rattle.std.proofs.Common.{◌/◌, length, ap, ◌∙◌, arith}
use Rattle.rpo_hash.specs.Constants.{constants_of}
use Rattle.vm_field.specs.Sponge.{absorbed, begun, squeezed, hashed}
use Rattle.number_files.proofs.Blocks.{goes_on, ends}
use Rattle.number_files.proofs.hashing.digest_of_elements.Goals as goal

pub loop-k-preserved : goal.loop-k-preserved
loop-k-preserved c = record {
  absorbs = rw (c.absorb.ensures.state, c.block_at.ensures)
      (goes_on (absorbed (constants_of c.args.constants.now)) (begun 0) (length c.args.elements.now / 8) c.args.elements.now
      c.loop-k.k c.loop-k.sponge.state c.loop-k-test.true c.loop-k.invariant.absorbs);
  some = λ _. c.absorb.ensures.absorbed;
}

pub returns : goal.returns
unfolding hashed
returns c =
    c.digest.ensures ∙ ap squeezed (ends (absorbed (constants_of c.args.constants.now)) (begun 0) (length c.args.elements.now / 8)
    c.args.elements.now c.loop-k.k c.loop-k.sponge.state (omega arith) c.loop-k.invariant.absorbs)
