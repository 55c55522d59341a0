-- Sorting a graph's places: those that were seen so far, and which of the others waits for which.
use Rattle.std.specs.Prelude.{◌≡◌, ℕ, ◌<◌, List, [], ◌++◌, length, slice_index, slice_index_or, ◌⊎◌}
use Rattle.std.specs.List.{Contains}
use Rattle.graphs.specs.Graph.{rows_of, Edge}
use Rattle.graphs.specs.Walks.{AreMarks}
use Rattle.graphs.specs.Orders.{StandsBehind}
use Rattle.graphs.specs.declared.ordering.Sorter.{Sorter}

-- the places that wait for this one
abbrev pub waiters : Sorter → ℕ → List ℕ
waiters s place = slice_index_or (rows_of s.waiting.items) place []

-- what was seen stands in order, the edges that were passed lead to what was seen, and only places wait
pub record IsSorting (graph : List (List ℕ)) (s : Sorter) : Type 0 where
  pub marks : AreMarks s.walk.marks.items s.walk.seen.items
  pub behind : StandsBehind graph s.walk.seen.items
  pub passed : (place k : ℕ) → k < slice_index s.passed.items place → k < length (slice_index_or graph place [])
      → Contains s.walk.seen.items (slice_index (slice_index_or graph place []) k)
  pub within : (b place : ℕ) → Contains (waiters s b) place → place < length graph
  pub marks_len : length s.walk.marks.items ≡ length graph
  pub passed_len : length s.passed.items ≡ length graph
  pub waiting_len : length s.waiting.items ≡ length graph

-- the place was seen, or waits for one to which it has an edge, which is none of those done
abbrev pub IsSettled : List (List ℕ) → List ℕ → Sorter → ℕ → Type 0
IsSettled graph done s place =
    Contains s.walk.seen.items place ⊎ ((b : ℕ) × Edge graph place b × Contains (waiters s b) place × ¬ (Contains done b))

-- what was seen or waits still does
pub record Grows (old new : Sorter) : Type 0 where
  pub more : List ℕ
  pub seen : new.walk.seen.items ≡ old.walk.seen.items ++ more
  pub waits : (b place : ℕ) → Contains (waiters old b) place → Contains (waiters new b) place
