use Rattle.std.proofs.Common.{length, get_or, sym, ap, subst, ◌∙◌, arith}
use Rattle.std.specs.Prelude.{nat_lt}
use Rattle.std.proofs.lemmas.List.{length_push}
use Rattle.std.specs.List.{list_all}
use Rattle.graphs.specs.Graph.{rows_of}
use Rattle.masm_graph.proofs.SettlingLemmas.{Ascend, ascend-more}
use Rattle.masm_graph.proofs.UserLemmas.{row_read}
use Rattle.masm_graph.proofs.settling.ascending.Goals as goal

pub loop-place-preserved : goal.loop-place-preserved
loop-place-preserved c =
    let graph = rows_of c.args.graph.now in
    let numbers = c.args.numbers.now in
    let i = c.loop-place.place in
    let row = c.deref.result.now in
    let marks = c.loop-place.marks.items in
    let mark = c.all_greater.result in
    let is = c.deref.ensures.value ∙ row_read c.args.graph.now i c.index-graph-place.result c.loop-place-test.true c.index-graph-place.is in
    let here = c.all_greater.ensures ∙ ap (λ n. list_all (λ place. nat_lt n (get_or numbers place 0)) row) c.number_at.ensures in
    let count = c.loop-place.invariant.0 in (
      ap length c.in_ok-push.ensures.items ∙ (let long = length_push marks mark in omega arith),
      subst (Ascend graph numbers) (sym c.in_ok-push.ensures.items)
          (ascend-more graph numbers row marks i mark count is c.loop-place.invariant.1 here),
    )
