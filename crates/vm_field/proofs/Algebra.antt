-- Equations modulo the prime, and equations with 0. What is linear is `omega arith`'s. For an equation between
-- polynomials write `simp flat (same_mod _ _ k j (omega arith))`, where the two sides differ by k and j times the
-- prime, and `x + (prime - 1) * y` for `felt_sub x y` (`felt_sub-as`).
use Rattle.std.proofs.Common.{◌≡◌, ℕ, ◌+◌, ◌-◌, ◌*◌, ◌%◌, ◌<◌, ◌⊎◌, ◌≤◌, Bool, true, false, cond, nat_lt, Some, None, inl, inr, ⊎_elim, sym, refl, ap, ◌∙◌, arith, ltb-true}
use Rattle.std.proofs.lemmas.Bool.Decides.{nat_tests}
use Rattle.std.proofs.Math.Nat.{add-mul-mod_self_left, mod-eq_of_lt, zero-mul, mul-zero}
use Rattle.vm_field.specs.Field.{prime, element_from, felt_sub, felt_mul}
use Rattle.vm_field.proofs.Prime.{Euclid-prime}

-- the element of a number
pub element_from-below : (n : ℕ) → n < prime → element_from n ≡ Some n
element_from-below n below = grind (arith, nat_tests)

pub element_from-above : (n : ℕ) → prime ≤ n → element_from n ≡ None
element_from-above n above = grind (arith, nat_tests)

pub element_from-some : (n e : ℕ) → element_from n ≡ Some e → (n ≡ e) × (e < prime)
element_from-some n e h = go (nat_lt n prime) refl h
  where
    go : (b : Bool) → nat_lt n prime ≡ b → cond b (Some n) None ≡ Some e → (n ≡ e) × (e < prime)
    go true is same =
        let n_is : n ≡ e = cc in
        (n_is, omega (arith, ltb-true n prime is))
    go false is same = cc

-- numbers that differ by multiples of the prime are one modulo it
pub same_mod : (x y k j : ℕ) → x + prime * j ≡ y + prime * k → x % prime ≡ y % prime
same_mod x y k j e = sym (add-mul-mod_self_left x prime j) ∙ ap (λ z. z % prime) e ∙ add-mul-mod_self_left y prime k

-- a difference is 0 exactly where the two are one
pub same_from_sub : (x y : ℕ) → x < prime → y < prime → felt_sub x y ≡ 0 → x ≡ y
same_from_sub x y hx hy e = omega arith

pub felt_sub-same : (x y : ℕ) → x < prime → x ≡ y → felt_sub x y ≡ 0
felt_sub-same x y hx e = omega arith

-- a product is 0 only where a factor is
pub zero_factor : (x y : ℕ) → x < prime → y < prime → felt_mul x y ≡ 0 → (x ≡ 0) ⊎ (y ≡ 0)
zero_factor x y hx hy e =
    ⊎_elim (λ zx. inl (sym (mod-eq_of_lt hx) ∙ zx)) (λ zy. inr (sym (mod-eq_of_lt hy) ∙ zy)) (Euclid-prime x y e)

pub felt_mul-zero_first : (x y : ℕ) → x ≡ 0 → felt_mul x y ≡ 0
felt_mul-zero_first x y e = ap (λ z. z * y % prime) e ∙ ap (λ z. z % prime) (zero-mul y)

pub felt_mul-zero_second : (x y : ℕ) → y ≡ 0 → felt_mul x y ≡ 0
felt_mul-zero_second x y e = ap (λ z. x * z % prime) e ∙ ap (λ z. z % prime) (mul-zero x)

-- b (b - 1) is 0 only at 0 and 1
pub bit_from_product : (b : ℕ) → b < prime → felt_mul b (felt_sub b 1) ≡ 0 → b < 2
bit_from_product b below e =
    ⊎_elim (λ z. omega arith) (λ z. omega arith) (zero_factor b (felt_sub b 1) below (omega arith) e)
