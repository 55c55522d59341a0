-- 2^64 - 2^32 + 1 is prime, since 7 generates the remainders other than 0, and what follows for powers, inverses
-- and seventh roots.
use Rattle.std.proofs.Common.{◌≡◌, ◌≢◌, ℕ, zero, suc, ◌+◌, ◌-◌, ◌*◌, ◌/◌, ◌%◌, ◌^◌, ◌<◌, ◌⊎◌, false, eqb, List, [], ◌∷◌, inl, inr, sym, refl, ap, ◌∙◌, arith, eq-eqb, lit<}
use Rattle.std.proofs.Math.Nat.{div-add-mod, one-mul, mul-zero, mod-eq_of_lt, mul-le-mul_right, mod_self}
use Rattle.std.proofs.lemmas.Bool.{false≢true}
use Rattle.vm_field.specs.Field.{prime, felt_pow, power}
use Rattle.vm_field.proofs.PowerLaws.{fast_power, power-fast, power-suc, power-zero_base}
use Rattle.vm_field.proofs.Cyclic.{IsEuclid, IsFactor, AllFactors, Generates, product, fermat, Euclid-from_generator}

-- k copies of a number before a list
repeat : ℕ → ℕ → List ℕ → List ℕ
repeat zero q qs = qs
repeat (suc k) q qs = q ∷ repeat k q qs

repeated : (n g N k q : ℕ) (qs : List ℕ) → IsFactor n g N q → AllFactors n g N qs → AllFactors n g N (repeat k q qs)
unfolding repeat
repeated n g N zero q qs f fs = fs
repeated n g N (suc k) q qs f fs = (f, repeated n g N k q qs f fs)

-- a power that the halving computes, and that is not 1
not_one : (n g e : ℕ) → e < 2 ^ 64 → eqb (fast_power 64 n g e) 1 ≡ false → power n g e ≢ 1
not_one n g e small test one =
    false≢true (sym test ∙ eq-eqb (fast_power 64 n g e) 1 (sym (power-fast 64 n g e small) ∙ one))

factor : (n g N q : ℕ) → 0 < q → IsEuclid q → N / q < 2 ^ 64 → eqb (fast_power 64 n g (N / q)) 1 ≡ false → IsFactor n g N q
factor n g N q pos e small test = record { positive = pos; Euclid = e; not_early = not_one n g (N / q) small test }

Euclid-2 : IsEuclid 2
unfolding product
Euclid-2 = Euclid-from_generator 2 1 1 [] (record {
  above_one = lit< tt;
  whole = refl;
  round = power-fast 64 2 1 1 (lit< tt);
  factors = refl;
  each = tt;
})

-- 3 to 65537: one more than a power of two
fermat_prime : (n g N k : ℕ) → 1 < n → N + 1 ≡ n → power n g N ≡ 1 → product (repeat k 2 []) ≡ N → IsFactor n g N 2 → IsEuclid n
fermat_prime n g N k above whole round factors f =
    Euclid-from_generator n g N (repeat k 2 []) (record {
      above_one = above;
      whole = whole;
      round = round;
      factors = factors;
      each = repeated n g N k 2 [] f tt;
    })

Euclid-3 : IsEuclid 3
unfolding product repeat
Euclid-3 = fermat_prime 3 2 2 1 (lit< tt) refl (power-fast 64 3 2 2 (lit< tt)) refl (factor 3 2 2 2 (lit< tt) Euclid-2 (lit< tt) refl)

Euclid-5 : IsEuclid 5
unfolding product repeat
Euclid-5 = fermat_prime 5 2 4 2 (lit< tt) refl (power-fast 64 5 2 4 (lit< tt)) refl (factor 5 2 4 2 (lit< tt) Euclid-2 (lit< tt) refl)

Euclid-17 : IsEuclid 17
unfolding product repeat
Euclid-17 = fermat_prime 17 3 16 4 (lit< tt) refl (power-fast 64 17 3 16 (lit< tt)) refl (factor 17 3 16 2 (lit< tt) Euclid-2 (lit< tt) refl)

Euclid-257 : IsEuclid 257
unfolding product repeat
Euclid-257 =
    fermat_prime 257 3 256 8 (lit< tt) refl (power-fast 64 257 3 256 (lit< tt)) refl (factor 257 3 256 2 (lit< tt) Euclid-2 (lit< tt) refl)

Euclid-65537 : IsEuclid 65537
unfolding product repeat
Euclid-65537 =
    fermat_prime 65537 3 65536 16 (lit< tt) refl (power-fast 64 65537 3 65536 (lit< tt)) refl
    (factor 65537 3 65536 2 (lit< tt) Euclid-2 (lit< tt) refl)

-- 2^32, 3, 5, 17, 257 and 65537
factors : List ℕ
factors = repeat 32 2 (3 ∷ 5 ∷ 17 ∷ 257 ∷ 65537 ∷ [])

of_seven : (q : ℕ) → 0 < q → IsEuclid q → (prime - 1) / q < 2 ^ 64 → eqb (fast_power 64 prime 7 ((prime - 1) / q)) 1 ≡ false
    → IsFactor prime 7 (prime - 1) q
of_seven q = factor prime 7 (prime - 1) q

generated : Generates prime 7 (prime - 1) factors
unfolding product repeat factors
generated = record {
  above_one = lit< tt;
  whole = refl;
  round = power-fast 64 prime 7 (prime - 1) (lit< tt);
  factors = refl;
  each =
      repeated prime 7 (prime - 1) 32 2 (3 ∷ 5 ∷ 17 ∷ 257 ∷ 65537 ∷ []) (of_seven 2 (lit< tt) Euclid-2 (lit< tt) refl) (
        of_seven 3 (lit< tt) Euclid-3 (lit< tt) refl,
        (
          of_seven 5 (lit< tt) Euclid-5 (lit< tt) refl,
          (
            of_seven 17 (lit< tt) Euclid-17 (lit< tt) refl,
            (of_seven 257 (lit< tt) Euclid-257 (lit< tt) refl, (of_seven 65537 (lit< tt) Euclid-65537 (lit< tt) refl, tt)),
          ),
        ),
      );
}

-- a product is 0 only where a factor is
pub Euclid-prime : IsEuclid prime
Euclid-prime = Euclid-from_generator prime 7 (prime - 1) factors generated

quotient_small : (d e : ℕ) → 1 < d → d * e ≡ prime → e % prime ≡ 0 → ⊥
quotient_small d zero above whole divides = absurd (omega (arith, mul-zero d))
quotient_small d (suc e) above whole divides = absurd (omega (arith, mul-le-mul_right {m = 2} {n = d} (suc e) above))

-- no number between 1 and the prime divides it
pub no_divisor : (d : ℕ) → 1 < d → d < prime → prime % d ≡ 0 → ⊥
no_divisor d above below divides = go (Euclid-prime d (prime / d) (ap (λ x. x % prime) whole ∙ mod_self prime))
  where
    whole : d * (prime / d) ≡ prime
    whole = go (d * (prime / d)) (prime % d) divides (div-add-mod prime d)
      where
        go : (x r : ℕ) → r ≡ 0 → x + r ≡ prime → x ≡ prime
        go x r e sum = omega arith

    go : (d % prime ≡ 0) ⊎ ((prime / d) % prime ≡ 0) → ⊥
    go (inl e) = absurd (omega arith)
    go (inr e) = quotient_small d (prime / d) above whole e

-- a power to the prime minus 1
pub fermat-prime : (a : ℕ) → 0 < a → a < prime → felt_pow a (prime - 1) ≡ 1
fermat-prime a positive below = fermat prime 7 (prime - 1) factors generated a positive below

-- a power to the prime
pub power-prime : (a : ℕ) → a < prime → felt_pow a prime ≡ a
power-prime zero below = power-zero_base prime (prime - 1)
power-prime (suc a) below =
    power-suc prime (suc a) (prime - 1) ∙ ap (λ x. (x * suc a) % prime) (fermat-prime (suc a) (omega arith) below)
    ∙ ap (λ x. x % prime) (one-mul (suc a)) ∙ mod-eq_of_lt below
