use Rattle.std.proofs.Common.{◌∙◌, arith}
use Rattle.rpo_hash.proofs.Rounds.{length-interleaved}
use Rattle.rpo_hash.proofs.permutation.known_constants.Goals as goal

pub returns-clause-count : goal.returns-clause-count
returns-clause-count c =
    length-interleaved c.args.params.now.first c.args.params.now.second (omega arith) (λ j h. c.loop-k.invariant j (omega arith)) ∙ omega arith
