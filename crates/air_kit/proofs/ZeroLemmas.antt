-- Lists of zeros, which have no fault.
use Rattle.std.proofs.Common.{◌≡◌, ℕ, zero, suc, ◌+◌, ◌<◌, List, [], ◌∷◌, None, refl, arith}
use Rattle.vm_field.specs.Field.{felt_sub, felt_mul}
use Rattle.air_kit.specs.Places.{family, first_fault_of}

-- each value of the list is 0
abbrev pub Zeros : List ℕ → Type 0
Zeros [] = Unit {0}
Zeros (v ∷ vs) = (v ≡ 0) × Zeros vs

pub no_fault : (n : ℕ) (vs : List ℕ) → Zeros vs → first_fault_of n vs ≡ None
no_fault n [] z = refl
no_fault n (v ∷ vs) z = rw (z.0) (no_fault (n + 1) vs z.1)

-- a bit times itself less one
pub bit_zero : (a : ℕ) → a < 2 → felt_mul a (felt_sub a 1) ≡ 0
bit_zero zero low = refl
bit_zero (suc zero) low = refl
bit_zero (suc (suc a)) low = absurd (omega arith)

-- a family whose values are 0
pub zeros_family : (n : ℕ) (value : ℕ → ℕ) → ((j : ℕ) → j < n → value j ≡ 0) → Zeros (family n value)
unfolding family
zeros_family zero value z = tt
zeros_family (suc n) value z = (z 0 (omega arith), zeros_family n (λ j. value (suc j)) (λ j h. z (suc j) (omega (arith, h))))
