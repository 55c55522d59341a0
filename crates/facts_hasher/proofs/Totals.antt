-- Sums over the rows of a table, and counts of one tuple.
use Rattle.std.proofs.Common.{List, [], ap, ap₂, arith, cond, inl, inr, nat_eq, refl, suc, sym, zero, ℕ, ◌+◌, ◌<◌, ◌∙◌, ◌∷◌, ◌≡◌}
use Rattle.std.proofs.lemmas.Bool.{cases_Bool}
use Rattle.std.specs.Cmp.Lexicographic.{same_text}
use lib.Pointwise.{pointwise}
use Rattle.buses.proofs.Counting.{tuple-same}
use Rattle.buses.specs.Counts.{counted, hits, once, total}

pub total-same : (n : ℕ) (f g : ℕ → ℕ) → ((i : ℕ) → i < n → f i ≡ g i) → total n f ≡ total n g
unfolding total
total-same zero f g same = refl
total-same (suc n) f g same = ap₂ (λ a b. a + b) (total-same n f g (λ i h. same i (omega arith))) (same n (omega arith))

-- the place behind eight more
abbrev pub eight : ℕ → ℕ
eight k = suc (suc (suc (suc (suc (suc (suc (suc k)))))))

-- the first eight, of which those between the first and the last are 0, and the others
pub total-eight : (n : ℕ) (f : ℕ → ℕ) → ((k : ℕ) → 0 < k → k < 7 → f k ≡ 0)
    → total (eight n) f ≡ f 0 + (f 7 + total n (λ i. f (eight i)))
unfolding total
total-eight zero f none = omega arith
total-eight (suc n) f none = let e = total-eight n f none in omega (arith, e)

-- ---- one tuple

pub once_same : (t u : List ℕ) → 0 < counted (once t ∷ []) u → u ≡ t
unfolding counted
once_same t u h = elim (cases_Bool (pointwise nat_eq t u)) [
  | inl is ↦ sym (same_text t u (sym is))
  | inr not ↦ absurd (let e : hits t 1 u ≡ 0 = ap (λ b. cond b 1 0) not in omega (arith, e, h))
]

pub once_own : (t u : List ℕ) → u ≡ t → 0 < counted (once t ∷ []) u
unfolding counted
once_own t u same = let e : hits t 1 u ≡ 1 = ap (λ b. cond b 1 0) (ap (pointwise nat_eq t) same ∙ tuple-same t) in omega (arith, e)
