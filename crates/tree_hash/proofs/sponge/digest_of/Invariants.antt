use Rattle.std.proofs.Common.{◌≡◌, take}
use Rattle.vm_field.specs.Sponge.{begun, sponge_after}
use Rattle.tree_hash.proofs.sponge.digest_of.Given as goal

abbrev pub invariant-loop-block : goal.invariant-loop-block
invariant-loop-block l = record {
  state : l.state ≡ sponge_after l.fn.permutations (begun l.fn.domain) (take l.block-index l.blocks);
  same : l.permutations ≡ l.fn.permutations;
}
