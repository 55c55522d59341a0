use Rattle.masm_uses.proofs.Words.{◌≡◌, ◌<◌, ℕ, true, false, List, Vec, Global, map, length, get_or, sym, ap, subst, ◌∙◌, length-map, All, rows_of}
use Rattle.masm_uses.proofs.Words.{IsGraph, LeadsFrom, Link, dynexecs_in, own_places}
use Rattle.masm_uses.proofs.DispatchLemmas.{Dynexecs-same}
use Rattle.masm_uses.proofs.Lent.{count_of}
use Rattle.masm_uses.proofs.dispatch.first_dispatch.Goals as goal

graph_count : (rows : List (Vec Link Global)) (graph : List (Vec ℕ Global)) → rows_of graph ≡ map own_places (rows_of rows) → length rows ≡ length graph
graph_count rows graph is =
    sym (count_of graph is ∙ (length-map (rows_of rows) own_places ∙ length-map rows (λ (v : Vec Link Global). v.items)))

pub reached_from-requires-clause-graph : goal.reached_from-requires-clause-graph
reached_from-requires-clause-graph c =
    subst IsGraph (sym (ap rows_of c.deref.ensures.value ∙ c.in_ok-graph.ensures)) c.requires.graph

pub reached_from-requires-clause-starts : goal.reached_from-requires-clause-starts
reached_from-requires-clause-starts c =
    subst (λ n. All (λ q. q < n) c.deref-2.result.now)
    (graph_count c.args.rows.now c.deref.result.now (ap rows_of c.deref.ensures.value ∙ c.in_ok-graph.ensures))
    (subst (All (λ q. q < length c.args.rows.now)) (sym (c.deref-2.ensures.value ∙ c.in_ok-targets.ensures)) c.requires.targets)

pub returns : goal.returns
returns c =
    let graph = ap rows_of c.deref.ensures.value ∙ c.in_ok-graph.ensures in
    let starts = c.deref-2.ensures.value ∙ c.in_ok-targets.ensures in
    let rows = ap rows_of c.deref-4.ensures.value ∙ c.in_ok-dynexecs.ensures in
    rw (sym graph, sym starts) (Dynexecs-same (λ q. get_or c.in_ok-marks.marks.items q false ≡ true) (LeadsFrom (rows_of c.deref.result.now) c.deref-2.result.now)
    (map dynexecs_in c.args.procs.now) c.first_marked.result c.in_ok-marks.ensures (rw (c.deref-3.ensures.value, rows) at c.first_marked.ensures))
