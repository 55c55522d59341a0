use Rattle.std.proofs.Common.{ℕ, take}
use Rattle.std.specs.List.{Contains}
use Rattle.graphs.specs.Graph.{rows_of}
use Rattle.graphs.specs.Sorting.{IsSorting, IsSettled, Grows}
use Rattle.graphs.proofs.ordering.Sorter.settle_all.Given as goal

abbrev pub invariant-loop-place : goal.invariant-loop-place
invariant-loop-place l =
    IsSorting (rows_of l.graph) l.self × Grows l.fn.self l.self
    × ((q : ℕ) → Contains (take l.place-index l.places) q → IsSettled (rows_of l.graph) l.fn.self.walk.seen.items l.self q)
