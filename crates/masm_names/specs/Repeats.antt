-- Definitions of names that were defined before, by their places.
use Rattle.std.specs.Prelude.{◌≡◌, ◌≢◌, ℕ, List, Option, Some, map}
use Rattle.masm_tree.specs.declared.tree.Position.{Position}
use Rattle.masm_names.specs.declared.refusal.LinkCause.{LinkCause}
use Rattle.masm_names.specs.declared.refusal.LinkCause.TheVariants as causes
use Rattle.masm_names.specs.Among.{Among}
use Rattle.masm_names.specs.Uses.{place_in}

-- A definition at this place of its list is refused, since its name does not stand first there.
abbrev pub IsDoubled : (places : List ℕ → Option ℕ) (name : List ℕ) (at : Position) (place : ℕ) → Position → LinkCause → Type 0
IsDoubled places name at place refused cause = (places name ≢ Some place) × (refused ≡ at) × (cause ≡ causes.Duplicate)

-- the definitions of a list that are refused
abbrev pub Repeats : {X : Type 0} (name : X → List ℕ) (at : X → Position) → List X → Position → LinkCause → Type 0
Repeats {X} name at items = Among (λ place x. IsDoubled (place_in (map name items)) (name x) (at x) place) items
