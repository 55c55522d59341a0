-- How often a tuple counts in a short list.
use Rattle.complete_rows.proofs.Words.{◌≡◌, ℕ, ◌+◌, List, [], ◌∷◌, arith, counted, hits, once}

-- 1 where u is this tuple, else 0
unfoldable pub hit : List ℕ → List ℕ → ℕ
hit t u = hits t 1 u

pub one_count : (t u : List ℕ) → counted (once t ∷ []) u ≡ hit t u
unfolding counted hit
one_count t u = omega arith

pub two_count : (t v u : List ℕ) → counted (once t ∷ once v ∷ []) u ≡ hit t u + hit v u
unfolding counted hit
two_count t v u = omega arith

-- where nothing is given nor asked, what is owed stays
pub stays_owed : {given asked : ℕ} → given ≡ 0 → asked ≡ 0 → (owed : ℕ) → given + owed ≡ asked + owed
stays_owed none nothing owed = omega (arith, none, nothing)
