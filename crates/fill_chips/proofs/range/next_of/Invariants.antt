use Rattle.fill_chips.proofs.Words.{◌≡◌, ℕ, ◌<◌, slice_index}
use Rattle.fill_chips.proofs.range.next_of.Given as goal

abbrev pub invariant-loop-value : goal.invariant-loop-value
invariant-loop-value l = (u : ℕ) → l.v < u → u < l.value → slice_index l.times u ≡ 0
