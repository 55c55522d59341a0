use Rattle.std.proofs.Common.{◌≡◌, length, take}
use Rattle.graphs.specs.Walks.{AreMarks, AddsPlaces}
use Rattle.graphs.proofs.reach.Walk.visit_all.Given as goal

abbrev pub invariant-loop-place : goal.invariant-loop-place
invariant-loop-place l =
    AreMarks l.self.marks.items l.self.seen.items × AddsPlaces l.fn.self.seen.items (take l.place-index l.row) l.self.seen.items
    × (length l.self.marks.items ≡ length l.fn.self.marks.items)
