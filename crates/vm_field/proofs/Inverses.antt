-- Inverses and seventh roots modulo the prime.
use Rattle.std.proofs.Common.{List, [], ◌∷◌, length, slice_index, map, ap₂, ◌≡◌, ◌≢◌, ℕ, zero, suc, ◌+◌, ◌-◌, ◌*◌, ◌%◌, ◌<◌, Bool, true, false, eqb, ◌==◌, cond, sym, refl, ap, ◌∙◌, arith, eqb-true, eq-eqb, lit<}
use Rattle.std.proofs.lemmas.Bool.{false≢true}
use Rattle.std.proofs.Math.Nat.{mul_comm, mul_assoc, one-mul, mul-one, mod-eq_of_lt, mod-mod}
use Rattle.std.proofs.lemmas.Nat.{mul-mod_first, mul-mod_second}
use Rattle.vm_field.specs.Field.{prime, felt_mul, felt_pow, felt_inv, seventh_root, one_below}
use Rattle.vm_field.proofs.PowerLaws.{power-below, power-add, power-suc, power-one, power-power, power-multiple, power-zero_base}
use Rattle.vm_field.proofs.Prime.{fermat-prime}

-- ---- the number that a test picks

-- the number that passes, where one does
pub one_below-passes : (test : ℕ → Bool) (n k : ℕ) → k < n → test k ≡ true → (test (one_below test n) ≡ true) × (one_below test n < n)
unfolding one_below
one_below-passes test zero k below pass = absurd (omega arith)
one_below-passes test (suc n) k below pass = go (test n) refl (λ less. one_below-passes test n k less pass)
  where
    less_from : test n ≡ false → k < n
    less_from fails =
        let ne : k ≢ n = λ e. false≢true (sym fails ∙ ap test (sym e) ∙ pass) in
        omega arith

    go : (b : Bool) → test n ≡ b → (k < n → (test (one_below test n) ≡ true) × (one_below test n < n))
        → (test (cond b n (one_below test n)) ≡ true) × (cond b n (one_below test n) < suc n)
    go true e rest = (e, omega arith)
    go false e rest =
        let r : (test (one_below test n) ≡ true) × (one_below test n < n) = rest (less_from e) in
        (r.0, omega (arith, r.1))

-- ---- inverses

-- the power to the prime minus 2
power_inverse : (a : ℕ) → 0 < a → a < prime → felt_mul a (felt_pow a (prime - 2)) ≡ 1
power_inverse a positive below =
    ap (λ x. x % prime) (mul_comm a (felt_pow a (prime - 2))) ∙ sym (power-suc prime a (prime - 2)) ∙ fermat-prime a positive below

inv_found : (a : ℕ) → 0 < a → a < prime
    → (eqb (felt_mul a (one_below (λ b. felt_mul a b == 1) prime)) 1 ≡ true) × (one_below (λ b. felt_mul a b == 1) prime < prime)
inv_found a positive below =
    one_below-passes (λ b. felt_mul a b == 1) prime (felt_pow a (prime - 2)) (power-below prime a (prime - 2) (lit< tt))
    (eq-eqb (felt_mul a (felt_pow a (prime - 2))) 1 (power_inverse a positive below))

pub felt_mul-felt_inv : (a : ℕ) → 0 < a → a < prime → felt_mul a (felt_inv a) ≡ 1
unfolding felt_inv
felt_mul-felt_inv a positive below =
    eqb-true (felt_mul a (one_below (λ b. felt_mul a b == 1) prime)) 1 (inv_found a positive below).0

pub felt_inv-below : (a : ℕ) → 0 < a → a < prime → felt_inv a < prime
unfolding felt_inv
felt_inv-below a positive below = (inv_found a positive below).1

-- the one inverse
pub felt_inv-unique : (a b : ℕ) → 0 < a → a < prime → b < prime → felt_mul a b ≡ 1 → b ≡ felt_inv a
felt_inv-unique a b positive below low one =
    sym (mod-eq_of_lt low) ∙ ap (λ x. x % prime) (sym (mul-one b) ∙ ap (λ x. b * x) (sym back)) ∙ mul-mod_second b (a * felt_inv a) prime
    ∙ ap (λ x. x % prime) (sym (mul_assoc b a (felt_inv a)) ∙ ap (λ x. x * felt_inv a) (mul_comm b a))
    ∙ sym (mul-mod_first (a * b) (felt_inv a) prime) ∙ ap (λ x. (x * felt_inv a) % prime) one
    ∙ ap (λ x. x % prime) (one-mul (felt_inv a)) ∙ mod-eq_of_lt (felt_inv-below a positive below)
  where
    back : felt_mul a (felt_inv a) ≡ 1
    back = felt_mul-felt_inv a positive below

-- the power that `inv` takes
pub felt_inv-is_power : (a : ℕ) → 0 < a → a < prime → felt_inv a ≡ felt_pow a (prime - 2)
felt_inv-is_power a positive below =
    sym (felt_inv-unique a (felt_pow a (prime - 2)) positive below (power-below prime a (prime - 2) (lit< tt)) (power_inverse a positive below))

-- ---- seventh roots

-- 7 times this exponent is 4 times the prime minus 1, and 1
abbrev pub root_exponent : ℕ
root_exponent = 10540996611094048183

-- the power to four times the prime minus 1, and 1
round_power : (x : ℕ) → x < prime → felt_pow x (4 * (prime - 1) + 1) ≡ x
round_power zero below = power-zero_base prime (4 * (prime - 1))
round_power (suc x) below =
    power-add prime (suc x) (4 * (prime - 1)) 1 ∙ ap (λ y. (y * felt_pow (suc x) 1) % prime) four_times
    ∙ ap (λ y. y % prime) (one-mul (felt_pow (suc x) 1)) ∙ ap (λ y. y % prime) (power-one prime (suc x)) ∙ mod-mod (suc x) prime
    ∙ mod-eq_of_lt below
  where
    four_times : felt_pow (suc x) (4 * (prime - 1)) ≡ 1
    four_times = power-multiple prime (suc x) (prime - 1) 4 (lit< tt) (fermat-prime (suc x) (omega arith) below)

-- the power to the root's exponent is a seventh root
pub power-root : (x : ℕ) → x < prime → felt_pow (felt_pow x root_exponent) 7 ≡ x
power-root x below = power-power prime x root_exponent 7 ∙ round_power x below

-- and it undoes the seventh power
pub root-power : (y : ℕ) → y < prime → felt_pow (felt_pow y 7) root_exponent ≡ y
root-power y below = power-power prime y 7 root_exponent ∙ round_power y below

-- elements with one seventh power are one
pub same_from_seventh : (y z : ℕ) → y < prime → z < prime → felt_pow y 7 ≡ felt_pow z 7 → y ≡ z
same_from_seventh y z low low' same =
    sym (root-power y low) ∙ ap (λ x. felt_pow x root_exponent) same ∙ root-power z low'

root_found : (x : ℕ) → x < prime
    → (eqb (felt_pow (one_below (λ y. felt_pow y 7 == x) prime) 7) x ≡ true) × (one_below (λ y. felt_pow y 7 == x) prime < prime)
root_found x below =
    one_below-passes (λ y. felt_pow y 7 == x) prime (felt_pow x root_exponent) (power-below prime x root_exponent (lit< tt))
    (eq-eqb (felt_pow (felt_pow x root_exponent) 7) x (power-root x below))

pub felt_pow-seventh_root : (x : ℕ) → x < prime → felt_pow (seventh_root x) 7 ≡ x
unfolding seventh_root
felt_pow-seventh_root x below =
    eqb-true (felt_pow (one_below (λ y. felt_pow y 7 == x) prime) 7) x (root_found x below).0

pub seventh_root-below : (x : ℕ) → x < prime → seventh_root x < prime
unfolding seventh_root
seventh_root-below x below = (root_found x below).1

-- the one root
pub seventh_root-unique : (x y : ℕ) → x < prime → y < prime → felt_pow y 7 ≡ x → y ≡ seventh_root x
seventh_root-unique x y below low e =
    same_from_seventh y (seventh_root x) low (seventh_root-below x below) (e ∙ sym (felt_pow-seventh_root x below))

-- the power that `root7` takes
pub seventh_root-is_power : (x : ℕ) → x < prime → seventh_root x ≡ felt_pow x root_exponent
seventh_root-is_power x below =
    sym (seventh_root-unique x (felt_pow x root_exponent) below (power-below prime x root_exponent (lit< tt)) (power-root x below))

pub seventh_root-seventh : (y : ℕ) → y < prime → seventh_root (felt_pow y 7) ≡ y
seventh_root-seventh y low = sym (seventh_root-unique (felt_pow y 7) y (power-below prime y 7 (lit< tt)) low refl)

-- the same for each element of a list
pub seventh_roots-are_powers : (xs ys : List ℕ) → length ys ≡ length xs → ((k : ℕ) → k < length xs → slice_index xs k < prime)
    → ((k : ℕ) → k < length xs → slice_index ys k ≡ felt_pow (slice_index xs k) root_exponent) → ys ≡ map seventh_root xs
seventh_roots-are_powers [] [] len below same = refl
seventh_roots-are_powers [] (y ∷ ys) len below same = absurd (omega arith)
seventh_roots-are_powers (x ∷ xs) [] len below same = absurd (omega arith)
seventh_roots-are_powers (x ∷ xs) (y ∷ ys) len below same =
    ap₂ (λ (z : ℕ) (zs : List ℕ). z ∷ zs) (same 0 (omega arith) ∙ sym (seventh_root-is_power x (below 0 (omega arith))))
    (seventh_roots-are_powers xs ys (omega arith) (λ k h. below (suc k) (omega arith)) (λ k h. same (suc k) (omega arith)))
