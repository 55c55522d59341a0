use Rattle.air_u32.proofs.LimbLemmas.{no_limbs, not_so}
use Rattle.air_u32.proofs.entries.lacks_limbs.Goals as goal

pub returns-in-Some : goal.returns-in-Some
returns-in-Some g c = λ is.
    no_limbs (g.V.View.cells c.args.x.now.row.now) c.in-Some.op ((c.operation.ensures c.in-Some.op).0 c.in-Some.is)
    (not_so c.has_limbs.result _ c.has_limbs.ensures is)
