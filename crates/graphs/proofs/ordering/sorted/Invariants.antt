use Rattle.std.proofs.Common.{ℕ, ◌-◌, ◌<◌, length, take, []}
use Rattle.graphs.specs.Graph.{rows_of}
use Rattle.graphs.specs.Sorting.{IsSorting, IsSettled}
use Rattle.graphs.proofs.ordering.sorted.Given as goal

abbrev pub invariant-loop-place : goal.invariant-loop-place
invariant-loop-place l =
    IsSorting (rows_of l.graph) l.sorter × ((q : ℕ) → q < l.place → IsSettled (rows_of l.graph) [] l.sorter q)

abbrev pub invariant-loop-next : goal.invariant-loop-next
invariant-loop-next l =
    IsSorting (rows_of l.graph) l.sorter
    × ((q : ℕ) → q < length l.graph → IsSettled (rows_of l.graph) (take l.next l.sorter.walk.seen.items) l.sorter q)

abbrev pub decreases-loop-next : goal.decreases-loop-next
decreases-loop-next l = length l.graph - l.next
