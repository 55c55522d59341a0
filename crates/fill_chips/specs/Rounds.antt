-- The states of permutations, and a part of a list of them.
use Rattle.std.specs.Prelude.{ℕ, ◌-◌, List, map, take, drop}
use Rattle.perm_memo.specs.RoundStates.{round_states}
use Rattle.air_kit.specs.declared.requests.Perm.{Perm}

-- the state before each permutation, and behind each of its rounds
abbrev pub states_of : List ℕ → List Perm → List (List (List ℕ))
states_of constants perms = map (λ p. round_states constants p.start) perms

-- the items of a list from one number on and below another
unfoldable pub between : {A : Type 0} → ℕ → ℕ → List A → List A
between i j xs = take (j - i) (drop i xs)
