use Rattle.std.proofs.Common.{ℕ, Vec, Global, arith, get_or, sym, ap, ◌∙◌}
use Rattle.std.specs.Prelude.{nat_le}
use Rattle.std.proofs.lemmas.List.{length-map}
use Rattle.std.specs.List.{list_all}
use Rattle.graphs.specs.Graph.{rows_of}
use Rattle.masm_graph.proofs.SettlingLemmas.{edge_from, ascends-more}
use Rattle.masm_graph.proofs.UserLemmas.{row_read}
use Rattle.masm_graph.proofs.settling.ascends.Goals as goal

pub loop-place-preserved : goal.loop-place-preserved
loop-place-preserved c =
    let numbers = c.args.numbers.now in
    let i = c.loop-place.place in
    let row = c.deref.result.now in
    let is = c.deref.ensures.value ∙ row_read c.args.graph.now i c.index-graph-place.result c.loop-place-test.true c.index-graph-place.is in
    let here = c.all_no_less.ensures ∙ ap (λ n. list_all (λ place. nat_le n (get_or numbers place 0)) row) c.number_at.ensures in
    ascends-more (rows_of c.args.graph.now) numbers row i is c.loop-place.invariant (sym here ∙ c.if-not-all_no_less.false)

pub returns : goal.returns
returns c = λ all a b edge.
    let graph = rows_of c.args.graph.now in
    let low = edge_from graph a b edge in
    let count = length-map c.args.graph.now (λ (v : Vec ℕ Global). v.items) in
    c.loop-place.invariant a b (omega (arith, c.loop-place-test.false)) edge
