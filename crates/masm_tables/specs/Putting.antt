-- What is put at a place of a list, where it is wanted.
use Rattle.std.specs.Prelude.{◌≡◌, ◌≢◌, ℕ, Bool, true, false, List, length, Some, slice_get, ◌⊎◌}

-- Where it is wanted something of this kind stands at the place; other places that stay have what they had.
pub record Puts {X : Type 0} (wanted : Bool) (place : ℕ) (Is : X → Type 0) (Stays : ℕ → Type 0) (old new : List X) : Type 0 where
  pub put : wanted ≡ true → (x : X) × (slice_get new place ≡ Some x) × Is x
  pub others : (q : ℕ) → Stays q → (q ≢ place) ⊎ (wanted ≡ false) → slice_get new q ≡ slice_get old q
  pub count : length new ≡ length old
