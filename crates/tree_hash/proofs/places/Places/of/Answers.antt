use Rattle.std.proofs.Common.{cond, nat_eq, Some, None, sym, ap, ap₂, ◌∙◌}
use lib.Pointwise.{pointwise}
use Rattle.std.specs.Option.{option_or}
use Rattle.tree_hash.specs.Nodes.{digest_in}
use Rattle.tree_hash.proofs.PlaceLemmas.{first_place-more}
use Rattle.tree_hash.proofs.places.Places.of.Goals as goal

pub loop-place-preserved : goal.loop-place-preserved
loop-place-preserved c = λ digest.
    let xs = c.args.nodes.now in
    let i = c.loop-place.place in
    c.in_ok-add.ensures digest
    ∙ (ap₂ (λ before d. option_or before (cond (pointwise nat_eq d digest) (Some i) None)) (c.loop-place.invariant digest)
    (c.digest.ensures.is ∙ ap digest_in c.index-nodes-place.is)
    ∙ sym (first_place-more digest_in xs i c.index-nodes-place.result digest c.loop-place-test.true))
