use Rattle.std.proofs.Common.{arith}
use Rattle.rpo_hash.proofs.Lists.{added-by_place}
use Rattle.rpo_hash.proofs.permutation.added.Goals as goal

pub returns-clause-is : goal.returns-clause-is
returns-clause-is c =
    added-by_place c.args.state.now c.args.constants.now c.loop-i.sums (omega arith) (omega arith) (λ k h. c.loop-i.invariant.1 k (omega arith))
