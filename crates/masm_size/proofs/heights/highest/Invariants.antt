use Rattle.std.proofs.Common.{◌≡◌, max, drop}
use Rattle.masm_size.specs.Sizes.{highest}
use Rattle.masm_size.proofs.heights.highest.Given as goal

abbrev pub invariant-loop-rise : goal.invariant-loop-rise
invariant-loop-rise l = max l.height (highest l.count (drop l.rise-index l.rises)) ≡ highest l.count l.rises
