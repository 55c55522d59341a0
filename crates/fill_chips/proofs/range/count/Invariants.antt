use Rattle.fill_chips.proofs.Words.{◌≡◌, ◌+◌, ℕ, length, slice_index, take, times_asked}
use Rattle.fill_chips.proofs.range.count.Given as goal

abbrev pub invariant-loop-value : goal.invariant-loop-value
invariant-loop-value l = record {
  size : length l.times.items ≡ 65536;
  counts : (v : ℕ) → slice_index l.times.items v ≡ slice_index l.initial.times.items v + times_asked (take l.value-index l.values) v;
}
