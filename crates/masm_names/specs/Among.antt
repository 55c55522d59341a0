-- What the elements of a list are refused for.
use Rattle.std.specs.Prelude.{◌≡◌, ℕ, ◌<◌, List, Some, slice_get}
use Rattle.masm_tree.specs.declared.tree.Position.{Position}
use Rattle.masm_names.specs.declared.refusal.LinkCause.{LinkCause}

module _ {X : Type 0} (Refused : ℕ → X → Position → LinkCause → Type 0) (items : List X) where
  -- the element at a place is refused
  abbrev pub HasAt : ℕ → Position → LinkCause → Type 0
  HasAt place at cause = (x : X) × (slice_get items place ≡ Some x) × Refused place x at cause

  -- one of the first elements is
  abbrev pub AmongFirst : ℕ → Position → LinkCause → Type 0
  AmongFirst count at cause = (place : ℕ) × (place < count) × HasAt place at cause

  -- one of the elements is
  abbrev pub Among : Position → LinkCause → Type 0
  Among at cause = (place : ℕ) × HasAt place at cause
