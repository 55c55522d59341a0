-- Taking elements from a tape.
use Rattle.std.specs.Prelude.{◌≡◌, ℕ, List, [], ◌∷◌, Option, Some, None}

-- the next element is taken, where there is one
abbrev pub Taken : List ℕ → Option ℕ → List ℕ → Type 0
Taken before (Some element) after = before ≡ element ∷ after
Taken before None after = (before ≡ []) × (after ≡ [])
