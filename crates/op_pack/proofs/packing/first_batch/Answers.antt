use Rattle.op_pack.proofs.PackLemmas.{first_rest-shorter}
use Rattle.op_pack.specs.Packing.{first_placed}
use Rattle.op_pack.proofs.packing.first_batch.Goals as goal

pub returns-clause-fewer : goal.returns-clause-fewer
unfolding first_placed
returns-clause-fewer c = λ some. rw c.place-behind.ensures.rest (first_rest-shorter c.args.items.now some)
