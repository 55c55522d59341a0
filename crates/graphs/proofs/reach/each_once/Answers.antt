use Rattle.std.proofs.Common.{◌<◌, ◌≤◌, false, length, get_or, refl, sym, ap, subst, ◌∙◌, rules}
use Rattle.std.proofs.lemmas.Bool.{false≢true}
use Rattle.std.proofs.lemmas.List.{take_all}
use Rattle.graphs.specs.Orders.{each_once}
use Rattle.graphs.proofs.Filters.{once_more}
use Rattle.graphs.proofs.reach.each_once.Goals as goal

pub loop-place-init : goal.loop-place-init
loop-place-init c = (c.in_ok-walk.ensures.marks, c.in_ok-walk.ensures.seen, c.in_ok-walk.ensures.count)

pub visit-requires-clause-within : goal.visit-requires-clause-within
visit-requires-clause-within c =
    subst (λ n. get_or c.args.row.now c.loop-place.place-index 0 < n) (sym c.loop-place.invariant.2)
    (c.requires c.loop-place.place-index 0 c.loop-place-test.true)

pub loop-place-preserved : goal.loop-place-preserved
loop-place-preserved c =
    let row = c.args.row.now in
    let i = c.loop-place.place-index in
    let place = get_or row i 0 in
    let are = c.loop-place.invariant.0 in (
      c.in_ok-visit.ensures.marks,
      once_more row i place c.loop-place.walk.seen.items _ (get_or c.loop-place.walk.marks.items place false) c.loop-place-test.true refl
          c.loop-place.invariant.1 (are.marked place).0 (λ unmarked has. false≢true (sym unmarked ∙ (are.marked place).1 has))
          c.in_ok-visit.ensures.seen,
      c.in_ok-visit.ensures.count ∙ c.loop-place.invariant.2,
    )

pub returns : goal.returns
returns c =
    let ended : length c.args.row.now ≤ c.loop-place.place-index = search rules in
    c.loop-place.invariant.1 ∙ ap each_once (take_all c.loop-place.place-index c.args.row.now ended)
