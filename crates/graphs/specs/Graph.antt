-- Graphs as lists: each place has a row, the places to which it has an edge.
use Rattle.std.specs.Prelude.{ℕ, ◌<◌, List, [], length, map, slice_index_or}
use Rattle.std.specs.List.{Contains}
use Rattle.std.specs.declared.vec.Vec.{Vec}
use Rattle.std.specs.declared.alloc.Global.{Global}

abbrev pub rows_of : {X : Type 0} → List (Vec X Global) → List (List X)
rows_of vecs = map (λ vec. vec.items) vecs

abbrev pub Edge : List (List ℕ) → ℕ → ℕ → Type 0
Edge graph a b = Contains (slice_index_or graph a []) b

-- each edge leads to a place of the list
abbrev pub IsGraph : List (List ℕ) → Type 0
IsGraph graph = (a b : ℕ) → Edge graph a b → b < length graph

-- a path of zero or more edges
pub data Leads (graph : List (List ℕ)) : ℕ → ℕ → Type 0 where
  itself : {a : ℕ} → Leads graph a a
  through : {a b c : ℕ} → Edge graph a b → Leads graph b c → Leads graph a c

-- a path from one of these places
abbrev pub LeadsFrom : List (List ℕ) → List ℕ → ℕ → Type 0
LeadsFrom graph starts place = (start : ℕ) × Contains starts start × Leads graph start place
