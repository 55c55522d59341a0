-- Counts of lists that are joined, sums from the front, and a tuple that is itself.
use Rattle.std.proofs.Common.{◌≡◌, ℕ, zero, suc, ◌+◌, true, List, [], ◌∷◌, ◌++◌, nat_eq, refl, arith}
use Rattle.std.proofs.lemmas.Bool.{eq-eqb}
use lib.Pointwise.{pointwise}
use Rattle.buses.specs.Counts.{Counted, counted, total}

pub counted-none : (u : List ℕ) → counted [] u ≡ 0
unfolding counted
counted-none u = refl

pub counted-append : (xs ys : List Counted) (u : List ℕ) → counted (xs ++ ys) u ≡ counted xs u + counted ys u
unfolding counted
counted-append [] ys u = omega arith
counted-append (x ∷ xs) ys u = let e = counted-append xs ys u in omega (arith, e)

pub total-front : (n : ℕ) (f : ℕ → ℕ) → total (suc n) f ≡ f 0 + total n (λ i. f (suc i))
unfolding total
total-front zero f = omega arith
total-front (suc n) f = let e = total-front n f in omega (arith, e)

-- a tuple is the same as itself
pub tuple-same : (tuple : List ℕ) → pointwise nat_eq tuple tuple ≡ true
tuple-same [] = refl
tuple-same (x ∷ tuple) = rw (eq-eqb x x refl) (tuple-same tuple)
