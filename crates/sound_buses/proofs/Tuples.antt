-- How often a tuple counts in the lists of a row: in a list of one tuple, and where a test passes.
use Rattle.sound_buses.proofs.Words.{◌≡◌, ℕ, ◌+◌, ◌<◌, ◌≤◌, ◌⊎◌, inl, inr, Bool, true, false, cond, nat_eq, List, [], ◌∷◌, refl, ap, arith, Counted, counted}
use Rattle.sound_buses.proofs.Words.{hits, once, counted-none}
use lib.Pointwise.{bytes_decides, pointwise}
use Rattle.sound_buses.proofs.Splits.{positive_part}

-- a tuple that hits is the one counted
hit_is : (t : List ℕ) (count : ℕ) (u : List ℕ) → 0 < hits t count u → t ≡ u
hit_is t count u =
    elim (pointwise nat_eq t u) as (λ b. pointwise nat_eq t u ≡ b → 0 < cond b count 0 → t ≡ u) [
      | true ↦ λ e h. (bytes_decides t u).0 e
      | false ↦ λ e h. absurd (omega arith)
    ] refl

pub hit_self : (t : List ℕ) (count : ℕ) → hits t count t ≡ count
hit_self t count = ap (λ b. cond b count 0) ((bytes_decides t t).1 refl)

hit_few : (t : List ℕ) (count : ℕ) (u : List ℕ) → hits t count u ≤ count
hit_few t count u = elim (pointwise nat_eq t u) as (λ b. cond b count 0 ≤ count) [ true ↦ omega arith | false ↦ omega arith ]

pub more_counts : (c : Counted) (cs : List Counted) (u : List ℕ) → counted (c ∷ cs) u ≡ hits c.tuple c.count u + counted cs u
unfolding counted
more_counts c cs u = refl

pub nothing_counts : {P : Type 0} (u : List ℕ) → 0 < counted [] u → P
nothing_counts u h = absurd (omega (arith, counted-none u))

-- a tuple that counts in a list is the first one, or counts behind it
pub first_or : (c : Counted) (cs : List Counted) (u : List ℕ) → 0 < counted (c ∷ cs) u → (c.tuple ≡ u) ⊎ (0 < counted cs u)
first_or c cs u h = elim (positive_part (hits c.tuple c.count u) (counted cs u) (omega (arith, more_counts c cs u))) [
  | inl here ↦ inl (hit_is c.tuple c.count u here)
  | inr behind ↦ inr behind
]

-- and where it is the first one, or counts behind it, it counts
pub counts_first : (t : List ℕ) (cs : List Counted) → 0 < counted (once t ∷ cs) t
counts_first t cs = omega (arith, more_counts (once t) cs t, hit_self t 1)

pub counts_behind : (c : Counted) (cs : List Counted) (u : List ℕ) → 0 < counted cs u → 0 < counted (c ∷ cs) u
counts_behind c cs u some = omega (arith, more_counts c cs u)

-- a list of one tuple
pub single_is : (c : Counted) (u : List ℕ) → 0 < counted (c ∷ []) u → c.tuple ≡ u
single_is c u h = elim (first_or c [] u h) [ inl is ↦ is | inr none ↦ nothing_counts u none ]

pub single_self : (t : List ℕ) → counted (once t ∷ []) t ≡ 1
single_self t = omega (arith, more_counts (once t) [] t, counted-none t, hit_self t 1)

-- a tuple where a test passes
pub tested : (b : Bool) (cs : List Counted) (u : List ℕ) → 0 < counted (cond b cs []) u → (b ≡ true) × (0 < counted cs u)
tested true cs u h = (refl, h)
tested false cs u h = nothing_counts u h

pub tested_is : (b : Bool) (c : Counted) (u : List ℕ) → 0 < counted (cond b (c ∷ []) []) u → (b ≡ true) × (c.tuple ≡ u)
tested_is b c u h = let t = tested b (c ∷ []) u h in (t.0, single_is c u t.1)

pub tested_few : (b : Bool) (t u : List ℕ) → counted (cond b (once t ∷ []) []) u ≤ 1
tested_few true t u = omega (arith, more_counts (once t) [] u, counted-none u, hit_few t 1 u)
tested_few false t u = omega (arith, counted-none u)
