use Rattle.std.proofs.Common.{◌<◌, ◌≤◌, length, get_or, sym, subst, ◌∙◌, rules}
use Rattle.std.proofs.lemmas.List.{get_or_read, length-map}
use Rattle.graphs.specs.Graph.{rows_of}
use Rattle.graphs.proofs.WalkLemmas.{Walked-start, Walked-more, Walked-end, within_marks}
use Rattle.graphs.proofs.reach.reached_from.Goals as goal

pub visit_all-requires-clause-within : goal.visit_all-requires-clause-within
visit_all-requires-clause-within c = λ k d below. subst (λ n. get_or c.args.starts.now k d < n) (sym c.in_ok-walk.ensures.count) (c.requires.starts k d below)

pub loop-next-init : goal.loop-next-init
loop-next-init c = (
  c.in_ok-visit_all.ensures.marks,
  Walked-start _ _ _ (rw c.in_ok-walk.ensures.seen at c.in_ok-visit_all.ensures.adds),
  c.in_ok-visit_all.ensures.count ∙ c.in_ok-walk.ensures.count,
)

pub visit_all-requires-in-loop-next-clause-within : goal.visit_all-requires-in-loop-next-clause-within
visit_all-requires-in-loop-next-clause-within c = λ k d below.
    within_marks (rows_of c.args.graph.now) c.row_at.result.now c.index-place.result.now k d _ c.requires.graph c.row_at.ensures
    (c.loop-next.invariant.2 ∙ sym (length-map c.args.graph.now _)) below

pub loop-next-preserved : goal.loop-next-preserved
loop-next-preserved c =
    let within : c.loop-next.next < length c.loop-next.walk.seen.items = search rules in (
      c.in_ok-visit_all-2.ensures.marks,
      Walked-more _ _ _ _ c.loop-next.next c.index-place.result.now c.loop-next.invariant.1 within
          (get_or_read c.loop-next.walk.seen.items c.loop-next.next _ within c.index-place.ensures 0)
          (rw c.row_at.ensures at c.in_ok-visit_all-2.ensures.adds),
      c.in_ok-visit_all-2.ensures.count ∙ c.loop-next.invariant.2,
    )

pub returns : goal.returns
returns c =
    let ended : length c.loop-next.walk.seen.items ≤ c.loop-next.next = search rules in
    Walked-end _ _ _ _ c.loop-next.next c.loop-next.invariant.0 c.loop-next.invariant.1 ended
