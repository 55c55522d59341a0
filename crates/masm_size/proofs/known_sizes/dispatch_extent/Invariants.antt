use Rattle.std.proofs.Common.{◌≡◌, ◌+◌, min, max, drop}
use Rattle.masm_size.proofs.Dispatches.{sizes_sum, heights_most}
use Rattle.masm_size.proofs.known_sizes.dispatch_extent.Given as goal

abbrev pub invariant-loop-place : goal.invariant-loop-place
invariant-loop-place l = record {
  operations :
      min (l.all.operations + sizes_sum l.sizes (drop l.place-index l.targets)) 524289 ≡ min (1 + sizes_sum l.sizes l.targets) 524289;
  height : max l.all.height (heights_most l.sizes (drop l.place-index l.targets)) ≡ heights_most l.sizes l.targets;
}
