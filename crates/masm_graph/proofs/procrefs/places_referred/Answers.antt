use Rattle.std.proofs.Common.{◌≡◌, ◌<◌, ℕ, ◌+◌, true, List, [], ◌++◌, take, length, get_or, sym, ap, ap₂, ◌∙◌}
use Rattle.std.proofs.lemmas.List.{take_more, take_all, flat_map_more}
use Rattle.std.specs.List.{flat_map}
use Rattle.masm_graph.specs.declared.links.Link.{Link}
use Rattle.graphs.specs.Graph.{rows_of}
use Rattle.masm_graph.specs.Links.{places_with}
use Rattle.masm_graph.proofs.UserLemmas.{row_read, rows_within, rows_ended}
use Rattle.masm_graph.proofs.procrefs.places_referred.Goals as goal

-- behind one more row
one_more : (rows : List (List Link)) (i : ℕ) (row : List Link) (before more after : List ℕ) → i < length rows → row ≡ get_or rows i []
    → before ≡ flat_map (places_with true) (take i rows) → more ≡ places_with true row → after ≡ before ++ more
    → after ≡ flat_map (places_with true) (take (i + 1) rows)
one_more rows i row before more after within is d e f =
    f ∙ (ap₂ (λ xs ys. xs ++ ys) d (e ∙ ap (places_with true) is)
    ∙ (flat_map_more (places_with true) [] (take i rows) (get_or rows i [])
    ∙ ap (flat_map (places_with true)) (sym (take_more rows i [] within))))

pub loop-row-preserved : goal.loop-row-preserved
loop-row-preserved c =
    let rows = rows_of c.args.rows.now in
    let i = c.loop-row.row-index in
    let is = c.deref.ensures.value ∙ row_read c.args.rows.now i c.row-item.result c.loop-row-test.true c.row-item.is in
    one_more rows i _ c.loop-row.places.items _ _ (rows_within c.args.rows.now i c.loop-row-test.true) is c.loop-row.invariant
    (c.as_slice.ensures.value ∙ c.in_ok-more.ensures) c.in_ok-extend_from_slice.ensures.items

pub returns : goal.returns
returns c =
    let rows = rows_of c.args.rows.now in
    let ended = rows_ended c.args.rows.now c.loop-row.row-index c.loop-row-test.false in
    c.in_ok-extend_from_slice-2.ensures.items
    ∙ ap₂ (λ xs ys. xs ++ ys) (c.loop-row.invariant ∙ ap (flat_map (places_with true)) (take_all c.loop-row.row-index rows ended))
    (c.as_slice-2.ensures.value ∙ c.in_ok-last.ensures)
