use Rattle.std.proofs.Common.{◌≡◌, [], ◌∷◌, ◌++◌, ap, sym, ◌∙◌, set}
use Rattle.std.proofs.lemmas.List.{map-set, get_or-map}
use Rattle.graphs.specs.Graph.{rows_of}
use Rattle.graphs.specs.Sorting.{waiters}
use Rattle.graphs.proofs.ordering.Sorter.wait.Goals as goal

pub returns-clause-rows : goal.returns-clause-rows
returns-clause-rows c =
    let vecs = c.args.self.now.waiting.items in
    let before : c.index_mut.result.now.items ≡ waiters c.args.self.now c.args.other =
    ap (λ vec. vec.items) c.index_mut.ensures.value ∙ sym (get_or-map (λ vec. vec.items) vecs c.args.other c.index_mut.result.now [] c.requires) in
    map-set (λ vec. vec.items) vecs c.args.other c.push.new.self
    ∙ ap (λ row. set (rows_of vecs) c.args.other row) (c.in_ok-push.ensures.items ∙ ap (λ row. row ++ c.args.place ∷ []) before)
