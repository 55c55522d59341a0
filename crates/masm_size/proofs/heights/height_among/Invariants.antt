use Rattle.std.proofs.Common.{◌≡◌}
use Rattle.masm_size.specs.Sizes.{height_among}
use Rattle.masm_size.proofs.heights.height_among.Given as goal

abbrev pub invariant-loop-count : goal.invariant-loop-count
invariant-loop-count l = height_among l.count l.index l.height ≡ height_among l.fn.count l.fn.index l.fn.height

abbrev pub decreases-loop-count : goal.decreases-loop-count
decreases-loop-count l = l.count
