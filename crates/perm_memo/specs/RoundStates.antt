-- A permutation by the states that it goes through.
use Rattle.std.specs.Prelude.{◌≡◌, ℕ, List, [], ◌∷◌, slice_index_or}
use Rattle.vm_field.specs.Permutation.{rounds}

-- the state, and what it is behind each of the seven rounds
unfoldable pub round_states : List ℕ → List ℕ → List (List ℕ)
round_states constants x =
    rounds 0 constants x ∷ rounds 1 constants x ∷ rounds 2 constants x ∷ rounds 3 constants x
    ∷ rounds 4 constants x ∷ rounds 5 constants x ∷ rounds 6 constants x ∷ rounds 7 constants x ∷ []

-- the states of one permutation, whichever state it begins with
abbrev pub AreRounds : List ℕ → List (List ℕ) → Type 0
AreRounds constants states = states ≡ round_states constants (slice_index_or states 0 [])
