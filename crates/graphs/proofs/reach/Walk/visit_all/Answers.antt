use Rattle.std.proofs.Common.{◌∙◌, refl}
use Rattle.graphs.proofs.WalkLemmas.{AddsPlaces-more}
use Rattle.graphs.proofs.reach.Walk.visit_all.Goals as goal

pub loop-place-preserved : goal.loop-place-preserved
loop-place-preserved c = (
  c.in_ok-visit.ensures.marks,
  AddsPlaces-more _ c.args.row.now _ _ c.loop-place.place-index _ c.loop-place-test.true refl c.loop-place.invariant.1 c.in_ok-visit.ensures.adds,
  c.in_ok-visit.ensures.count ∙ c.loop-place.invariant.2,
)
