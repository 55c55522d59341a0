use Rattle.std.proofs.Common.{◌≡◌, length, take}
use Rattle.graphs.specs.Walks.{AreMarks}
use Rattle.graphs.specs.Orders.{each_once}
use Rattle.graphs.proofs.reach.each_once.Given as goal

abbrev pub invariant-loop-place : goal.invariant-loop-place
invariant-loop-place l =
    AreMarks l.walk.marks.items l.walk.seen.items × (l.walk.seen.items ≡ each_once (take l.place-index l.row))
    × (length l.walk.marks.items ≡ l.count)
