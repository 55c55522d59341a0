-- Orders of a graph's places.
use Rattle.std.specs.Prelude.{ℕ, ◌<◌, Bool, false, not, nat_eq, List, [], ◌∷◌, ◌++◌, filter, length, take, slice_index, slice_index_or}
use Rattle.std.specs.List.{Contains}
use Rattle.graphs.specs.Graph.{Edge, Leads}

-- no edge is part of a way back
abbrev pub IsAcyclic : List (List ℕ) → Type 0
IsAcyclic graph = (a b : ℕ) → Edge graph a b → ¬ (Leads graph b a)

-- in the order each place stands behind those to which it has edges
abbrev pub StandsBehind : List (List ℕ) → List ℕ → Type 0
StandsBehind graph order =
    (k b : ℕ) → k < length order → Edge graph (slice_index order k) b → Contains (take k order) b

-- the graph's places, each behind those to which it has edges
pub record IsOrder (graph : List (List ℕ)) (order : List ℕ) : Type 0 where
  pub within : (k : ℕ) → k < length order → slice_index order k < length graph
  pub all : (place : ℕ) → place < length graph → Contains order place
  pub behind : StandsBehind graph order

-- the places that have a mark, and then those that have none, each in their order
abbrev pub marked_first : List Bool → List ℕ → List ℕ
marked_first marks order =
    filter (λ place. slice_index_or marks place false) order ++ filter (λ place. not (slice_index_or marks place false)) order

-- places in their order, each once
abbrev pub each_once : List ℕ → List ℕ
each_once [] = []
each_once (place ∷ row) = place ∷ filter (λ other. not (nat_eq place other)) (each_once row)
