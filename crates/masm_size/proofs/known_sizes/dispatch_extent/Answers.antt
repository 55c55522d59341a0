use Rattle.std.proofs.Common.{◌≡◌, ◌+◌, ◌∷◌, drop, get_or, map, Some, ap, ◌∙◌, arith}
use Rattle.std.proofs.lemmas.List.{drop_more}
use Rattle.masm_flat.specs.declared.extent.Extent.{Extent}
use Rattle.masm_size.specs.KnownSizes.{size_at}
use Rattle.masm_size.specs.Sizes.{extent_of}
use Rattle.masm_size.proofs.Dispatches.{sum-cons, target_extents, sizes_sum, heights_most}
use Rattle.masm_size.proofs.known_sizes.dispatch_extent.Goals as goal

pub loop-place-preserved : goal.loop-place-preserved
loop-place-preserved c =
    let sizes = c.args.sizes.now in
    let targets = c.args.targets.now in
    let i = c.loop-place.place-index in
    let place = get_or targets i 0 in
    let behind = drop (i + 1) targets in
    let here : drop i targets ≡ place ∷ behind = drop_more targets i 0 c.loop-place-test.true in
    let e = extent_of (size_at sizes (Some place)) in
    let is : c.extent_of.result ≡ e = c.extent_of.ensures ∙ ap extent_of c.numbered.ensures in
    let operations = ap (λ (x : Extent). x.operations) is in
    let height = ap (λ (x : Extent). x.height) is in
    let sums : sizes_sum sizes (drop i targets) ≡ e.operations + sizes_sum sizes behind =
    ap (sizes_sum sizes) here ∙ sum-cons e.operations (map (λ (x : Extent). x.operations) (target_extents sizes behind)) in
    let heights = ap (heights_most sizes) here in
    record {
      operations = omega (arith, c.loop-place.invariant.operations, c.beside-all.ensures.operations);
      height = omega (arith, c.loop-place.invariant.height, c.beside-all.ensures.height);
    }
