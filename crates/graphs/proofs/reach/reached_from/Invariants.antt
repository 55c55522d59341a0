use Rattle.std.proofs.Common.{◌≡◌, ◌-◌, length}
use Rattle.graphs.specs.Graph.{rows_of}
use Rattle.graphs.specs.Walks.{AreMarks, Walked}
use Rattle.graphs.proofs.reach.reached_from.Given as goal

abbrev pub invariant-loop-next : goal.invariant-loop-next
invariant-loop-next l =
    AreMarks l.walk.marks.items l.walk.seen.items × Walked (rows_of l.graph) l.starts l.walk.seen.items l.next
    × (length l.walk.marks.items ≡ length l.graph)

abbrev pub decreases-loop-next : goal.decreases-loop-next
decreases-loop-next l = length l.graph - l.next
