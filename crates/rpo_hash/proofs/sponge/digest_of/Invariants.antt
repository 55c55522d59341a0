use Rattle.std.proofs.Common.{◌≡◌, ◌<◌, take, IsTrue}
use Rattle.rpo_hash.specs.Constants.{constants_of}
use Rattle.vm_field.specs.Sponge.{begun, sponge_after}
use Rattle.rpo_hash.proofs.sponge.digest_of.Given as goal

abbrev pub invariant-loop-block : goal.invariant-loop-block
invariant-loop-block l = record {
  state : l.sponge.state ≡ sponge_after (constants_of l.params) (begun l.fn.domain) (take l.block-index l.blocks);
  absorbed : 0 < l.block-index → IsTrue l.sponge.has_absorbed;
}
