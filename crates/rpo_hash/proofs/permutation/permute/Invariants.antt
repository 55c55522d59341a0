use Rattle.std.proofs.Common.{◌≡◌, ◌<◌}
use Rattle.vm_field.specs.Permutation.{rounds}
use Rattle.rpo_hash.specs.Constants.{constants_of}
use Rattle.rpo_hash.specs.States.{IsState}
use Rattle.rpo_hash.proofs.permutation.permute.Given as goal

abbrev pub invariant-loop-k : goal.invariant-loop-k
invariant-loop-k l = record {
  rounds : l.state ≡ rounds l.k (constants_of l.params) l.fn.state;
  state : 0 < l.k → IsState l.state;
}
