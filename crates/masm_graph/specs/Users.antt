-- Which procedures use which, as graphs.
use Rattle.std.specs.Prelude.{◌≡◌, ℕ, List, [], length, slice_index_or, ◌↔◌}
use Rattle.std.specs.List.{Any}
use Rattle.masm_graph.specs.declared.links.Link.{Link}
use Rattle.masm_graph.specs.declared.links.Target.TheVariants as targets
use Rattle.graphs.specs.Graph.{Edge}

-- one of the uses leads to the source's procedure at this place
abbrev pub HasOwn : List Link → ℕ → Type 0
HasOwn row place = Any (λ link. link.target ≡ targets.Own place) row

-- one procedure uses another, where each has a row of its uses
abbrev pub UsesProcedure : List (List Link) → ℕ → ℕ → Type 0
UsesProcedure rows user place = HasOwn (slice_index_or rows user []) place

-- each procedure has a row of those that use it
pub record AreUsers (rows : List (List Link)) (users : List (List ℕ)) : Type 0 where
  pub count : length users ≡ length rows
  pub edges : (place user : ℕ) → Edge users place user ↔ UsesProcedure rows user place
