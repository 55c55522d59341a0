-- Plans: which procedures' lists are built, in which order, and which of them are not needed any more behind each.
use Rattle.std.specs.Prelude.{◌≡◌, ℕ, ◌<◌, Bool, true, false, List, [], ◌∷◌, ◌++◌, length, Option, Some, None, slice_get, slice_index, slice_index_or, take, reverse, ◌⊎◌}
use Rattle.std.specs.List.{Contains}
use Rattle.graphs.specs.Graph.{Edge}
use Rattle.masm_tree.specs.Trees.{Procedure, Source}
use Rattle.masm_uses.specs.declared.planning.Step.{Step}
use Rattle.masm_names.specs.Uses.{Use, Own, uses_of, first_place, UsedIn, IsTarget, HasDynexec, IsDynamic}
use Rattle.masm_names.specs.UsedPlaces.{places_used, times_among}

-- A step makes what is told by its place, or does not, and some of what was made ends with it.
module _ (makes : Step → Bool) (ends : Step → List ℕ) where
  -- what is held behind a step
  abbrev pub HeldBehind : (ℕ → Type 0) → Step → ℕ → Type 0
  HeldBehind Held step place = (Held place ⊎ ((place ≡ step.place) × (makes step ≡ true))) × ¬ (Contains (ends step) place)

  -- Where some is held, the steps make what is wanted: each step when what it needs is held, so that at the end all that is
  -- wanted is.
  abbrev pub Builds : (Needs : ℕ → ℕ → Type 0) (count : ℕ) (Wanted Held : ℕ → Type 0) → List Step → Type 0
  Builds Needs count Wanted Held [] = (place : ℕ) → Wanted place → Held place
  Builds Needs count Wanted Held (step ∷ steps) =
      (step.place < count) × ((place : ℕ) → Needs step.place place → Held place) × Builds Needs count Wanted (HeldBehind Held step) steps

-- the list of a procedure is wanted in the end: it is exported, or there is an exec or a call of it between begin and end, or
-- dynexecs may run it
pub data IsWanted (source : Source) (place : ℕ) : Type 0 where
  exported : (p : Procedure) → slice_get source.procs place ≡ Some p → p.exported ≡ true → IsWanted source place
  of_main : (p : Procedure) (u : Use) → source.main ≡ Some p → Contains (uses_of p.body) u → u.kind ≡ Own → u.refers ≡ false
      → first_place source.procs u.name ≡ Some place → IsWanted source place
  of_dynexec : IsDynamic source → IsTarget source place → IsWanted source place

-- the digest of a procedure is wanted in the end: there is a procref of it between begin and end
pub data IsReferred (source : Source) (place : ℕ) : Type 0 where
  by_main : (p : Procedure) (u : Use) → source.main ≡ Some p → Contains (uses_of p.body) u → u.kind ≡ Own → u.refers ≡ true
      → first_place source.procs u.name ≡ Some place → IsReferred source place

-- one procedure uses another, by a procref or by no procref
abbrev pub NeedsIn : List Procedure → Bool → ℕ → ℕ → Type 0
NeedsIn procs refers i j = (u : Use) × UsedIn procs i u j × (u.refers ≡ refers)

-- what has to be there when a procedure's list is made: the lists of those that it executes or calls, and where it has a
-- dynexec those of all that this may run
pub data ListNeeds (source : Source) (i j : ℕ) : Type 0 where
  used : NeedsIn source.procs false i j → ListNeeds source i j
  targeted : HasDynexec source.procs i → IsTarget source j → ListNeeds source i j

-- what a step makes and ends: lists that later steps or the end need, and digests, which stay
abbrev pub keeps_list : Step → Bool
keeps_list step = step.kept

abbrev pub ended_lists : Step → List ℕ
ended_lists step = step.ended.items

abbrev pub makes_digest : Step → Bool
makes_digest step = step.referred

abbrev pub no_ends : Step → List ℕ
no_ends step = []

-- a plan for a source, whose last step stands first
pub record IsPlan (source : Source) (steps : List Step) : Type 0 where
  pub lists : Builds keeps_list ended_lists (ListNeeds source) (length source.procs) (IsWanted source) (λ place. ⊥) (reverse steps)
  pub digests : Builds makes_digest no_ends (NeedsIn source.procs true) (length source.procs) (IsReferred source) (λ place. ⊥) (reverse steps)

-- a place stands before another one in an order
abbrev pub StandsBefore : List ℕ → ℕ → ℕ → Type 0
StandsBefore order j i = (k : ℕ) → k < length order → slice_index order k ≡ i → Contains (take k order) j

-- what is held when a place is made: that to which it has edges, and that which is needed in the end and stands before it
abbrev pub IsHeldFor : List (List ℕ) → List Bool → List ℕ → ℕ → ℕ → Type 0
IsHeldFor graph needed order i j = Edge graph i j ⊎ ((slice_index_or needed j false ≡ true) × StandsBefore order j i)

-- the targets are held to the end where there is a dynexec
abbrev pub held : Bool → List ℕ → List ℕ
held true targets = targets
held false targets = []

-- the places of a row are marked; these were not
pub record MarksRow (old : List Bool) (row : List ℕ) (new : List Bool) (fresh : List ℕ) : Type 0 where
  pub marked : (place : ℕ) → Contains row place → slice_index_or new place false ≡ true
  pub keeps : (place : ℕ) → slice_index_or old place false ≡ true → slice_index_or new place false ≡ true
  pub fresh_were : (place : ℕ) → Contains fresh place → slice_index_or old place false ≡ false
  pub count : length new ≡ length old

-- A place that has a mark is made behind what is done, where steps stand last first; the places of its row then have one, and
-- those that had none end with it. A step may also stand there for a place that has no mark, and then does not make it.
pub data StepsTo (makes : Step → Bool) (ends : Step → List ℕ) (place : ℕ) (row : List ℕ) (marks : List Bool) (steps : List Step)
    : List Bool → List Step → Type 0 where
  passed : slice_index_or marks place false ≡ false → StepsTo makes ends place row marks steps marks steps
  built : (step : Step) (new : List Bool) → makes step ≡ slice_index_or marks place false → step.place ≡ place
      → MarksRow marks row new (ends step) → StepsTo makes ends place row marks steps new (steps ++ step ∷ [])

-- a place stands in a list as often as it does in these, or not at all
abbrev pub IsNoneOrAll : List ℕ → List ℕ → Type 0
IsNoneOrAll places all = (place : ℕ) → (times_among places place ≡ 0) ⊎ (times_among places place ≡ times_among all place)

-- what ends with a step stands there once for each edge that leads to it
abbrev pub EndsInGraph : List (List ℕ) → Step → Type 0
EndsInGraph graph step = IsNoneOrAll step.ended.items (slice_index_or graph step.place [])

-- what ends with a step stands there once for each exec or call that the procedure has of it, where names lead to these places
abbrev pub EndsInFull : (List ℕ → Option ℕ) → List Procedure → Step → Type 0
EndsInFull own procs step =
    (p : Procedure) → slice_get procs step.place ≡ Some p → IsNoneOrAll step.ended.items (places_used own (uses_of p.body))

-- the places of the procedures whose lists are used between begin and end, one for each use
abbrev pub main_uses : (List ℕ → Option ℕ) → Option Procedure → List ℕ
main_uses own None = []
main_uses own (Some p) = places_used own (uses_of p.body)
