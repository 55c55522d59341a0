use Rattle.std.proofs.Common.{◌≡◌, length, false, replicate, sym, ◌∙◌, rules}
use Rattle.std.proofs.lemmas.List.{length-map}
use Rattle.graphs.specs.Graph.{rows_of}
use Rattle.graphs.proofs.SortLemmas.{IsSorting-start}
use Rattle.graphs.proofs.ordering.Sorter.new.Goals as goal

pub returns : goal.returns
returns c =
    let count = length-map c.args.graph.now (λ vec. vec.items) in
    let rows = rows_of c.args.graph.now in
    let marks : c.in_ok-vec.field-0.items ≡ replicate (length rows) false = rw count (search rules) in
    let passed : c.in_ok-vec-2.field-0.items ≡ replicate (length rows) 0 = rw count (search rules) in
    IsSorting-start rows _ marks c.new.ensures.items passed c.in_ok-empty_rows.ensures.empty (c.in_ok-empty_rows.ensures.count ∙ sym count)
