use Rattle.std.proofs.Common.{take, sym, subst, inl, inr, get_or}
use Rattle.std.proofs.lemmas.List.{take_more, take_all}
use Rattle.std.proofs.lemmas.List.Elements.{Contains-push_cases}
use Rattle.std.specs.List.{Contains}
use Rattle.graphs.specs.Graph.{rows_of}
use Rattle.graphs.specs.Sorting.{IsSettled}
use Rattle.graphs.proofs.SortLemmas.{Grows-join, Grows-keeps, IsSettled-grows, IsSettled-fewer}
use Rattle.graphs.proofs.ordering.Sorter.settle_all.Goals as goal

pub loop-place-preserved : goal.loop-place-preserved
loop-place-preserved c =
    let graph = rows_of c.args.graph.now in
    let start = c.args.self.now in
    let before = c.loop-place.self in
    let xs = c.args.places.now in
    let i = c.loop-place.place-index in (
      c.in_ok-settle.ensures.sorting,
      Grows-join start before _ c.loop-place.invariant.1 c.in_ok-settle.ensures.grows,
      λ q h. elim (Contains-push_cases (take i xs) (get_or xs i 0) q (subst (λ ys. Contains ys q) (take_more xs i 0 c.loop-place-test.true) h)) [
        | inl early ↦ IsSettled-grows graph start.walk.seen.items before _ q c.in_ok-settle.ensures.grows (c.loop-place.invariant.2 q early)
        | inr here ↦
            subst (λ p. IsSettled graph start.walk.seen.items c.settle.new.self p) here
            (IsSettled-fewer graph before.walk.seen.items start.walk.seen.items c.settle.new.self _
            (λ b. Grows-keeps start before b c.loop-place.invariant.1) c.in_ok-settle.ensures.settled)
      ],
    )

pub returns-clause-settled : goal.returns-clause-settled
returns-clause-settled c =
    λ q h. c.loop-place.invariant.2 q (subst (λ ys. Contains ys q)
    (sym (take_all c.loop-place.place-index c.args.places.now c.loop-place-test.false)) h)
