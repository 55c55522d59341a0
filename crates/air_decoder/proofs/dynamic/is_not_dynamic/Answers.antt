use Rattle.air_decoder.proofs.DynLemmas.{not_dynamic}
use Rattle.air_decoder.proofs.dynamic.is_not_dynamic.Goals as goal

pub returns-in-Some : goal.returns-in-Some
returns-in-Some g c = λ is.
    not_dynamic (g.V.View.cells c.args.x.now.row.now) c.in-Some.op ((c.operation.ensures c.in-Some.op).0 c.in-Some.is) (c.is_other.ensures is)
