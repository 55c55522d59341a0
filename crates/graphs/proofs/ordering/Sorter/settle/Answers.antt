use Rattle.std.proofs.Common.{◌≡◌, ◌<◌, ◌≤◌, [], length, get_or, inr, refl, sym, ap, ◌∙◌, arith}
use Rattle.std.specs.Vec.{with_item}
use Rattle.std.proofs.lemmas.Bool.{false≢true}
use Rattle.std.proofs.lemmas.List.{get_or-set_same, length-map}
use Rattle.std.proofs.lemmas.Result.{on_ok_weaker}
use Rattle.graphs.specs.Graph.{rows_of}
use Rattle.graphs.specs.Sorting.{IsSorting}
use Rattle.graphs.specs.declared.ordering.Sorter.{Sorter}
use Rattle.graphs.proofs.SortLemmas.{OnOk-both, row_of, edge_at, IsSorting-pass, IsSorting-wait, IsSorting-visit, Grows-wait}
use Rattle.graphs.proofs.ordering.Sorter.settle.Goals as goal

pub first_unseen-edge-requires : goal.first_unseen-edge-requires
first_unseen-edge-requires c = λ k d below.
    let graph = rows_of c.args.graph.now in
    let row = row_of c.args.graph.now c.args.place _ c.as_slice-row.result.now c.requires.place c.index-graph-place.is c.as_slice-row.ensures.value in
    let low = c.requires.graph c.args.place _ (edge_at graph c.as_slice-row.result.now c.args.place k d row below) in
    omega (arith, low, c.requires.sorting.marks_len)

pub wait-requires : goal.wait-requires
wait-requires c =
    let graph = rows_of c.args.graph.now in
    let row = row_of c.args.graph.now c.args.place _ c.as_slice-row.result.now c.requires.place c.index-graph-place.is c.as_slice-row.ensures.value in
    let low =
    c.requires.graph c.args.place _ (edge_at graph c.as_slice-row.result.now c.args.place c.first_unseen-edge.result 0 row
    c.if-edge-row.true) in
    omega (arith, low, c.requires.sorting.waiting_len)

pub returns-then-edge-row-clause-sorting : goal.returns-then-edge-row-clause-sorting
returns-then-edge-row-clause-sorting c =
    let graph = rows_of c.args.graph.now in
    let s = c.args.self.now in
    let place = c.args.place in
    let edge = c.first_unseen-edge.result in
    let row = row_of c.args.graph.now place _ c.as_slice-row.result.now c.requires.place c.index-graph-place.is c.as_slice-row.ensures.value in
    let within : place < length graph = omega (arith, length-map c.args.graph.now (λ vec. vec.items)) in
    let passed : Sorter = record { walk = s.walk; passed = with_item s.passed place edge; waiting = s.waiting } in
    let sorting : IsSorting graph passed =
    IsSorting-pass graph s passed place c.index.result.now edge c.as_slice-row.result.now c.requires.sorting within row
    c.index.ensures c.first_unseen-edge.ensures.seen refl refl refl in
    on_ok_weaker c.wait.result
    (IsSorting-wait graph passed c.wait.new.self place _ sorting within
    (c.requires.graph place _ (edge_at graph c.as_slice-row.result.now place edge 0 row c.if-edge-row.true)) c.wait.ensures.walk
    c.wait.ensures.passed c.wait.ensures.count)
    c.wait.ensures.rows

pub returns-then-edge-row-clause-grows : goal.returns-then-edge-row-clause-grows
returns-then-edge-row-clause-grows c =
    let graph = rows_of c.args.graph.now in
    let row = row_of c.args.graph.now c.args.place _ c.as_slice-row.result.now c.requires.place c.index-graph-place.is c.as_slice-row.ensures.value in
    let low =
    c.requires.graph c.args.place _ (edge_at graph c.as_slice-row.result.now c.args.place c.first_unseen-edge.result 0 row
    c.if-edge-row.true) in
    on_ok_weaker c.wait.result
    (λ rows. (Grows-wait c.args.self.now c.wait.new.self c.args.place _ (omega (arith, low, c.requires.sorting.waiting_len))
    c.wait.ensures.walk rows).0)
    c.wait.ensures.rows

pub returns-then-edge-row-clause-settled : goal.returns-then-edge-row-clause-settled
returns-then-edge-row-clause-settled c =
    let graph = rows_of c.args.graph.now in
    let row = row_of c.args.graph.now c.args.place _ c.as_slice-row.result.now c.requires.place c.index-graph-place.is c.as_slice-row.ensures.value in
    let other = get_or c.as_slice-row.result.now c.first_unseen-edge.result 0 in
    let edge = edge_at graph c.as_slice-row.result.now c.args.place c.first_unseen-edge.result 0 row c.if-edge-row.true in
    let low = c.requires.graph c.args.place _ edge in
    on_ok_weaker c.wait.result
    (λ rows. inr (
      other,
      edge,
      (Grows-wait c.args.self.now c.wait.new.self c.args.place _ (omega (arith, low, c.requires.sorting.waiting_len)) c.wait.ensures.walk rows).1,
      λ seen. false≢true (sym (c.first_unseen-edge.ensures.unseen c.if-edge-row.true) ∙ (c.requires.sorting.marks.marked other).1 seen),
    ))
    c.wait.ensures.rows

pub returns-else-edge-row-clause-sorting : goal.returns-else-edge-row-clause-sorting
returns-else-edge-row-clause-sorting c =
    let graph = rows_of c.args.graph.now in
    let s = c.args.self.now in
    let place = c.args.place in
    let edge = c.first_unseen-edge.result in
    let row = row_of c.args.graph.now place _ c.as_slice-row.result.now c.requires.place c.index-graph-place.is c.as_slice-row.ensures.value in
    let within : place < length graph = omega (arith, length-map c.args.graph.now (λ vec. vec.items)) in
    let passed : Sorter = record { walk = s.walk; passed = with_item s.passed place edge; waiting = s.waiting } in
    let sorting : IsSorting graph passed =
    IsSorting-pass graph s passed place c.index.result.now edge c.as_slice-row.result.now c.requires.sorting within row
    c.index.ensures c.first_unseen-edge.ensures.seen refl refl refl in
    let stands : get_or passed.passed.items place 0 ≡ edge =
    get_or-set_same s.passed.items place edge 0 (omega (arith, c.requires.sorting.passed_len)) in
    let whole : length (get_or graph place []) ≤ get_or passed.passed.items place 0 = omega (arith, ap length row, stands) in
    OnOk-both c.visit.result
    (λ marks adds. IsSorting-visit graph passed _ place sorting marks adds c.visit.ensures.count refl refl whole)
    c.visit.ensures.marks c.visit.ensures.adds
