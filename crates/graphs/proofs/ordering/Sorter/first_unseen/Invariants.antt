use Rattle.std.proofs.Common.{◌≡◌, ℕ, ◌-◌, ◌<◌, ◌≤◌, length, slice_index, slice_index_or, false, true}
use Rattle.graphs.proofs.ordering.Sorter.first_unseen.Given as goal

abbrev pub invariant-loop-edge : goal.invariant-loop-edge
invariant-loop-edge l =
    (k : ℕ) → l.from ≤ k → k < l.edge → slice_index_or l.self.walk.marks.items (slice_index l.row k) false ≡ true

abbrev pub decreases-loop-edge : goal.decreases-loop-edge
decreases-loop-edge l = length l.row - l.edge
