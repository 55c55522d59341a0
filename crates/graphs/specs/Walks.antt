-- A walk over a graph: the places that were seen, in their order, and a mark for each of them.
use Rattle.std.specs.Prelude.{◌≡◌, ℕ, ◌<◌, Bool, true, false, List, ◌++◌, length, slice_index, slice_index_or, count_by, ◌⊎◌, ◌↔◌}
use Rattle.std.specs.List.{Contains}
use Rattle.graphs.specs.Graph.{Edge, LeadsFrom}

-- the marks are those of the places seen, each of which was seen once
pub record AreMarks (marks : List Bool) (seen : List ℕ) : Type 0 where
  pub marked : (place : ℕ) → (slice_index_or marks place false ≡ true) ↔ Contains seen place
  pub once : count_by (λ mark. mark) marks ≡ length seen

-- places are added to those seen
pub record AddsPlaces (old row new : List ℕ) : Type 0 where
  pub more : List ℕ
  pub keeps : new ≡ old ++ more
  pub row_in : (place : ℕ) → Contains row place → Contains new place
  pub only : (place : ℕ) → Contains new place → Contains old place ⊎ Contains row place

-- what is seen is reached from the starts, and of the first of them the edges are seen too
pub record Walked (graph : List (List ℕ)) (starts : List ℕ) (seen : List ℕ) (next : ℕ) : Type 0 where
  pub begun : (start : ℕ) → Contains starts start → Contains seen start
  pub reached : (place : ℕ) → Contains seen place → LeadsFrom graph starts place
  pub followed : (k place : ℕ) → k < next → Edge graph (slice_index seen k) place → Contains seen place
