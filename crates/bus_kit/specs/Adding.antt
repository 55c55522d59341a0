-- What it is to count the tuples of lists.
use Rattle.std.specs.Prelude.{◌≡◌, ℕ, ◌+◌, ◌^◌, ◌<◌, ◌≤◌, List, [], ◌∷◌}
use Rattle.buses.specs.Counts.{Counted, counted, once}

-- how often each tuple was asked, and how often it was given
abbrev pub Tallied : Type 0
Tallied = List ℕ → ℕ × ℕ

-- The tuples of one list were asked and those of another given, and no count grew by more than n.
pub record IsCounted (n : ℕ) (old new : Tallied) (asked given : List Counted) : Type 0 where
  pub asked_is : (u : List ℕ) → (new u).0 ≡ (old u).0 + counted asked u
  pub given_is : (u : List ℕ) → (new u).1 ≡ (old u).1 + counted given u
  pub asked_grows : (u : List ℕ) → (new u).0 ≤ (old u).0 + n
  pub given_grows : (u : List ℕ) → (new u).1 ≤ (old u).1 + n

-- each count is below 2^127
abbrev pub CanCount : Tallied → Type 0
CanCount t = (u : List ℕ) → ((t u).0 < 2 ^ 127) × ((t u).1 < 2 ^ 127)

-- each value as a tuple of its own
abbrev pub singles : List ℕ → List Counted
singles [] = []
singles (v ∷ vs) = once (v ∷ []) ∷ singles vs
