-- Sums of a function over the numbers below a bound.
use Rattle.sound_buses.proofs.Words.{◌≡◌, ◌≢◌, ℕ, zero, suc, ◌+◌, ◌<◌, ◌≤◌, ◌⊎◌, inl, inr, ap, arith, total}
use Rattle.std.proofs.lemmas.Bool.{cases_lt}
use Rattle.sound_buses.proofs.Splits.{positive_part, zero_or}

-- a positive sum has a positive term
pub total_some : (n : ℕ) (f : ℕ → ℕ) → 0 < total n f → (i : ℕ) × (i < n) × (0 < f i)
unfolding total
total_some zero f h = absurd (omega arith)
total_some (suc n) f h = elim (positive_part (total n f) (f n) h) [
  | inl before ↦ let s = total_some n f before in (s.0, omega (arith, s.1), s.2)
  | inr here ↦ (n, omega arith, here)
]

last_or : (n i : ℕ) → i < suc n → (i < n) ⊎ (i ≡ n)
last_or n i h = grind arith

-- a term is at most the sum
pub total_term : (n : ℕ) (f : ℕ → ℕ) (i : ℕ) → i < n → f i ≤ total n f
unfolding total
total_term zero f i h = absurd (omega arith)
total_term (suc n) f i h = elim (last_or n i h) [ inl before ↦ omega (arith, total_term n f i before) | inr e ↦ omega (arith, ap f e) ]

-- two terms are together at most the sum
total_two : (n : ℕ) (f : ℕ → ℕ) (i j : ℕ) → i < j → j < n → f i + f j ≤ total n f
unfolding total
total_two zero f i j less h = absurd (omega arith)
total_two (suc n) f i j less h = elim (last_or n j h) [
  | inl before ↦ omega (arith, total_two n f i j less before)
  | inr e ↦ omega (arith, ap f e, total_term n f i (omega arith))
]

pub total_apart : (n : ℕ) (f : ℕ → ℕ) (i j : ℕ) → i < n → j < n → i ≢ j → f i + f j ≤ total n f
total_apart n f i j hi hj apart = elim (cases_lt i j) [
  | inl less ↦ total_two n f i j less hj
  | inr more ↦ omega (arith, total_two n f j i (omega (arith, more, apart)) hi)
]

-- where at most one term is positive, and is 1, the sum is at most 1
pub total_one : (n : ℕ) (f : ℕ → ℕ) → ((i : ℕ) → i < n → f i ≤ 1) → ((i j : ℕ) → i < n → j < n → 0 < f i → 0 < f j → i ≡ j) → total n f ≤ 1
unfolding total
total_one zero f few one = omega arith
total_one (suc n) f few one = elim (zero_or (f n)) [
  | inl here ↦ elim (zero_or (total n f)) [
    | inl some ↦ let s = total_some n f some in absurd (omega (arith, s.1, one s.0 n (omega (arith, s.1)) (omega arith) s.2 here))
    | inr none ↦ omega (arith, none, few n (omega arith))
  ]
  | inr none ↦ omega (arith, none, total_one n f (λ i h. few i (omega arith)) (λ i j hi hj. one i j (omega arith) (omega arith)))
]
