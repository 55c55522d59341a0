-- The inverse of 0, and those of the factors of a product.
use Rattle.std.proofs.Common.{◌≡◌, ℕ, zero, suc, ◌*◌, ◌%◌, ◌<◌, ◌==◌, if◌then◌else◌, inl, inr, ⊎_elim, refl, sym, ap, ◌∙◌, arith, lit<, zero-mul}
use Rattle.std.proofs.lemmas.Bool.{cases_lt}
use Rattle.std.proofs.lemmas.Nat.{mul-mod_first, mul-mod_second}
use Rattle.std.proofs.Math.Nat.{mul_comm, mul_assoc, mod-lt}
use Rattle.vm_field.specs.Field.{prime, felt_mul, felt_inv, one_below}
use Rattle.vm_field.proofs.Algebra.{zero_factor}
use Rattle.vm_field.proofs.Inverses.{felt_inv-unique, felt_mul-felt_inv}

none_below : (n : ℕ) → one_below (λ b. felt_mul 0 b == 1) n ≡ 0
unfolding one_below
none_below zero = refl
none_below (suc n) = ap (λ m. if m % prime == 1 then n else one_below (λ b. felt_mul 0 b == 1) n) (zero-mul n) ∙ none_below n

pub inverse_of_zero : felt_inv 0 ≡ 0
unfolding felt_inv
inverse_of_zero = none_below prime

pub product_positive : (a b : ℕ) → 0 < a → a < prime → 0 < b → b < prime → 0 < felt_mul a b
product_positive a b positive_a below_a positive_b below_b = elim (cases_lt 0 (felt_mul a b)) [
  | inl positive ↦ positive
  | inr none ↦
      ⊎_elim (λ (zero_a : a ≡ 0). omega (arith, zero_a, positive_a)) (λ (zero_b : b ≡ 0). omega (arith, zero_b, positive_b))
      (zero_factor a b below_a below_b (omega (arith, none)))
]

-- the inverse of a product, times one factor, is the inverse of the other
pub inverse_of_first : (a b : ℕ) → 0 < a → a < prime → 0 < b → b < prime → felt_mul (felt_inv (felt_mul a b)) b ≡ felt_inv a
inverse_of_first a b positive_a below_a positive_b below_b = felt_inv-unique a (felt_mul q b) positive_a below_a (mod-lt (q * b) (lit< tt)) one
  where
    q : ℕ
    q = felt_inv (felt_mul a b)

    one : felt_mul a (felt_mul q b) ≡ 1
    one =
        mul-mod_second a (q * b) prime
        ∙ ap (λ x. x % prime) (ap (λ x. a * x) (mul_comm q b) ∙ sym (mul_assoc a b q))
        ∙ sym (mul-mod_first (a * b) q prime)
        ∙ felt_mul-felt_inv (felt_mul a b) (product_positive a b positive_a below_a positive_b below_b) (mod-lt (a * b) (lit< tt))

pub inverse_of_second : (a b : ℕ) → 0 < a → a < prime → 0 < b → b < prime → felt_mul (felt_inv (felt_mul a b)) a ≡ felt_inv b
inverse_of_second a b positive_a below_a positive_b below_b =
    ap (λ (n : ℕ). felt_mul (felt_inv (n % prime)) a) (mul_comm a b) ∙ inverse_of_first b a positive_b below_b positive_a below_a
