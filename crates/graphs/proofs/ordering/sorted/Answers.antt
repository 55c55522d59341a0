use Rattle.std.proofs.Common.{◌<◌, ◌≤◌, [], length, get_or, sym, subst, ◌∙◌, inl, inr, arith, rules}
use Rattle.std.proofs.lemmas.Bool.Decides.{eqb_tells}
use Rattle.std.proofs.lemmas.List.{get_or_read, length-map}
use Rattle.std.proofs.lemmas.List.Elements.{Contains-get_or}
use Rattle.std.specs.List.{Contains}
use Rattle.graphs.specs.Graph.{rows_of}
use Rattle.graphs.specs.Sorting.{waiters, IsSettled}
use Rattle.graphs.proofs.SortLemmas.{IsSettled-grows, IsSettled-fewer, IsSettled-next, IsSorting-take, IsOrder-end, contains_none, seen-low}
use Rattle.graphs.proofs.ordering.sorted.Goals as goal

pub loop-place-preserved : goal.loop-place-preserved
loop-place-preserved c =
    let graph = rows_of c.args.graph.now in (
      c.in_ok-settle.ensures.sorting,
      λ q below. elim (eqb_tells q c.loop-place.place) [
        | inl same ↦
            subst (λ p. IsSettled graph [] c.settle.new.self p) (sym same.1)
            (IsSettled-fewer graph c.loop-place.sorter.walk.seen.items [] c.settle.new.self _
            (λ b none. absurd (contains_none b none)) c.in_ok-settle.ensures.settled)
        | inr other ↦
            IsSettled-grows graph [] c.loop-place.sorter _ q c.in_ok-settle.ensures.grows
            (c.loop-place.invariant.1 q (let apart = other.1 in omega arith))
      ],
    )

pub loop-next-init : goal.loop-next-init
loop-next-init c = (c.loop-place.invariant.0, λ q below. c.loop-place.invariant.1 q (omega arith))

pub take_waiters-waiters-requires : goal.take_waiters-waiters-requires
take_waiters-waiters-requires c =
    let sorter = c.loop-next.sorter in
    let within : c.loop-next.next < length sorter.walk.seen.items = search rules in
    let low = seen-low (rows_of c.args.graph.now) sorter _ _ c.loop-next.invariant.0 within c.index-place.ensures in
    omega (arith, low, c.loop-next.invariant.0.waiting_len)

pub settle_all-requires-clause-places : goal.settle_all-requires-clause-places
settle_all-requires-clause-places c = λ k d below.
    let graph = rows_of c.args.graph.now in
    let row = c.as_slice.result.now in
    let has : Contains (waiters c.loop-next.sorter c.index-place.result.now) (get_or row k d) =
    subst (λ xs. Contains xs (get_or row k d)) (c.as_slice.ensures.value ∙ c.take_waiters-waiters.ensures.taken) (Contains-get_or row k d below) in
    let low = c.loop-next.invariant.0.within c.index-place.result.now (get_or row k d) has in
    let count = length-map c.args.graph.now (λ vec. vec.items) in
    omega (arith, low, count)

pub settle_all-requires-clause-sorting : goal.settle_all-requires-clause-sorting
settle_all-requires-clause-sorting c =
    let sorter = c.loop-next.sorter in
    let graph = rows_of c.args.graph.now in
    let within : c.loop-next.next < length sorter.walk.seen.items = search rules in
    let taken = c.take_waiters-waiters.ensures in
    IsSorting-take graph sorter _ c.index-place.result.now c.loop-next.invariant.0
    (seen-low graph sorter _ _ c.loop-next.invariant.0 within c.index-place.ensures) taken.walk taken.passed taken.count taken.rows

pub loop-next-preserved : goal.loop-next-preserved
loop-next-preserved c =
    let sorter = c.loop-next.sorter in
    let graph = rows_of c.args.graph.now in
    let within : c.loop-next.next < length sorter.walk.seen.items = search rules in
    let place = c.index-place.result.now in
    let taken = c.take_waiters-waiters.ensures in (
      c.in_ok-settle_all.ensures.sorting,
      λ q below. IsSettled-next graph sorter c.take_waiters-waiters.new.self c.settle_all.new.self c.loop-next.next place q within
          (get_or_read sorter.walk.seen.items c.loop-next.next place within c.index-place.ensures 0) taken.walk taken.rows
          c.in_ok-settle_all.ensures.grows
          (λ waited. c.in_ok-settle_all.ensures.settled q (subst (λ xs. Contains xs q) (sym (c.as_slice.ensures.value ∙ taken.taken)) waited))
          (c.loop-next.invariant.1 q below),
    )

pub returns-clause-marks : goal.returns-clause-marks
returns-clause-marks c = c.loop-next.invariant.0.marks

pub returns-clause-behind : goal.returns-clause-behind
returns-clause-behind c = c.loop-next.invariant.0.behind

pub returns-clause-all : goal.returns-clause-all
returns-clause-all c = λ acyclic.
    let ended : length c.loop-next.sorter.walk.seen.items ≤ c.loop-next.next = search rules in
    let count = length-map c.args.graph.now (λ vec. vec.items) in
    IsOrder-end (rows_of c.args.graph.now) _ c.loop-next.next c.requires acyclic c.loop-next.invariant.0 ended
    (λ q below. c.loop-next.invariant.1 q (omega arith))
