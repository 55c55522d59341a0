use Rattle.masm_graph.specs.Links.{places_with}
use Rattle.masm_graph.proofs.UserLemmas.{made_more}
use Rattle.masm_graph.proofs.own.graph_with.Goals as goal

pub loop-row-preserved : goal.loop-row-preserved
loop-row-preserved c =
    made_more (places_with c.args.wanted) c.args.rows.now c.loop-row.row-index c.row-item.result c.deref.result.now c.loop-row.graph.items _
    c.in_ok-places_with.field-0 c.loop-row-test.true c.row-item.is c.deref.ensures.value c.loop-row.invariant c.in_ok-places_with.ensures
    c.in_ok-push.ensures.items
