-- The steps of a plan, one behind the other.
use Rattle.masm_tables.proofs.Words.{◌≡◌, ℕ, ◌+◌, ◌<◌, ◌≤◌, Bool, true, List, [], ◌∷◌, ◌++◌, length, take, get_or, Vec, Global, refl, sym, ap, subst, ◌∙◌}
use Rattle.masm_tables.proofs.Words.{reverse, take_more, take_all, reverse-append, Source, Outside, IsListAt, IsDigestAt}
use Rattle.masm_uses.specs.declared.planning.Step.{Step}
use Rattle.masm_uses.specs.Plans.{HeldBehind, Builds, IsPlan, IsWanted, IsReferred, ListNeeds, NeedsIn, keeps_list, ended_lists, makes_digest, no_ends}
use Rattle.masm_uses.proofs.PlanLemmas.{more_built}
use Rattle.masm_flat.specs.declared.piece.Piece as piece

-- the places of steps, which are those of procedures
abbrev pub ArePlaces : ℕ → List Step → Type 0
ArePlaces count steps = Builds keeps_list ended_lists (λ i j. ⊥) count (λ q. ⊥) (λ q. Unit {0}) steps

-- the steps build the lists that are wanted, where these lists are built
abbrev pub BuildsLists : Source → Outside → List (Vec piece.Piece Global) → List Step → Type 0
BuildsLists source out lists steps =
    Builds keeps_list ended_lists (ListNeeds source) (length source.procs) (IsWanted source) (IsListAt source out lists) steps

-- and the digests, where these are made
abbrev pub BuildsDigests : Source → Outside → List (List ℕ) → List Step → Type 0
BuildsDigests source out digests steps =
    Builds makes_digest no_ends (NeedsIn source.procs true) (length source.procs) (IsReferred source) (IsDigestAt source out digests) steps

-- the next step stands last
steps_more : (steps : List Step) (k : ℕ) (step : Step) → k < length steps → step ≡ get_or steps k step
    → reverse (take (k + 1) steps) ≡ step ∷ reverse (take k steps)
steps_more steps k step below is =
    ap reverse (take_more steps k step below ∙ ap (λ s. take k steps ++ s ∷ []) (sym is)) ∙ reverse-append (take k steps) (step ∷ [])

-- Steps of either kind, where something is held.
module _ (makes : Step → Bool) (ends : Step → List ℕ) (Needs : ℕ → ℕ → Type 0) (count : ℕ) (Wanted : ℕ → Type 0) (steps : List Step) where
  abbrev pub Holds : (ℕ → Type 0) → ℕ → Type 0
  Holds Held n = Builds makes ends Needs count Wanted Held (reverse (take n steps))

  pub holds-all : (Held : ℕ → Type 0) (n : ℕ) → length steps ≤ n → Builds makes ends Needs count Wanted (λ q. ⊥) (reverse steps) → Holds Held n
  holds-all Held n all plan =
      subst (λ xs. Builds makes ends Needs count Wanted Held (reverse xs)) (sym (take_all n steps all))
      (more_built makes ends (reverse steps) refl (λ i j h. h) (λ q h. h) (λ q h. absurd h) plan)

  module _ (k n : ℕ) (step : Step) (below : k < length steps) (is : step ≡ get_or steps k step) (next : n ≡ k + 1) where
    longer : reverse (take n steps) ≡ step ∷ reverse (take k steps)
    longer = ap (λ m. reverse (take m steps)) next ∙ steps_more steps k step below is

    pub holds-needs : (Held : ℕ → Type 0) → Holds Held n → (q : ℕ) → Needs step.place q → Held q
    holds-needs Held builds = (subst (Builds makes ends Needs count Wanted Held) longer builds).1

    pub holds-next : (Held Held' : ℕ → Type 0) → Holds Held n → ((q : ℕ) → HeldBehind makes ends Held step q → Held' q) → Holds Held' k
    holds-next Held Held' builds held =
        more_built makes ends (reverse (take k steps)) refl (λ i j h. h) (λ q h. h) held (subst (Builds makes ends Needs count Wanted Held) longer builds).2

  pub holds-end : (Held : ℕ → Type 0) (n : ℕ) → n ≡ 0 → Holds Held n → (q : ℕ) → Wanted q → Held q
  holds-end Held n none builds = subst (λ m. Builds makes ends Needs count Wanted Held (reverse (take m steps))) none builds

-- the places of a plan
pub plan-places : (source : Source) (steps : List Step) → IsPlan source steps → ArePlaces (length source.procs) (reverse steps)
plan-places source steps plan =
    more_built keeps_list ended_lists (reverse steps) refl (λ i j h. absurd h) (λ q h. absurd h) (λ q h. absurd h) plan.lists

-- the next step's place is one of them
pub place_low : (count : ℕ) (steps : List Step) (k n : ℕ) {step : Step} → k < length steps → step ≡ get_or steps k step → n ≡ k + 1
    → ArePlaces count (reverse (take n steps)) → step.place < count
place_low count steps k n {step} below is next places =
    (subst (ArePlaces count) (ap (λ m. reverse (take m steps)) next ∙ steps_more steps k step below is) places).0
