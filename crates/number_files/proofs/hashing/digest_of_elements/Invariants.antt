use Rattle.std.proofs.Common.{◌<◌, ◌/◌, length}
use Rattle.std.specs.Bool.{IsTrue}
use Rattle.rpo_hash.specs.Constants.{constants_of}
use Rattle.vm_field.specs.Sponge.{absorbed, begun}
use Rattle.number_files.proofs.Blocks.{Absorbs}
use Rattle.number_files.proofs.hashing.digest_of_elements.Given as goal

-- the state so far goes on through the blocks that are left
abbrev pub invariant-loop-k : goal.invariant-loop-k
invariant-loop-k l = record {
  absorbs : Absorbs (absorbed (constants_of l.constants)) (begun 0) (length l.elements / 8) l.elements l.k l.sponge.state;
  some : 0 < l.k → IsTrue l.sponge.has_absorbed;
}
