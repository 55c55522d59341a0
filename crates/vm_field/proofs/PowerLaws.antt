-- Powers modulo n.
use Rattle.std.proofs.Common.{◌≡◌, ℕ, zero, suc, ◌+◌, ◌*◌, ◌/◌, ◌%◌, ◌^◌, ◌<◌, sym, ap, ap₂, ◌∙◌, arith}
use Rattle.std.proofs.Math.Nat.{pow-zero, pow-suc, one-mul, mul-one, mul-suc, mul-zero, div-add-mod', mod-lt, zero-mod, mod-mod, mod-eq_of_lt}
use Rattle.std.proofs.lemmas.Nat.{pow-add, mul-pow, pow-mod, mul-mod_first, mul-mod_second, mul-mod}
use Rattle.vm_field.specs.Field.{power}

pub power-below : (n b e : ℕ) → 0 < n → power n b e < n
unfolding power
power-below n b e pos = mod-lt (b ^ e) pos

-- only the base's remainder counts
pub power-mod_base : (n b e : ℕ) → power n (b % n) e ≡ power n b e
unfolding power
power-mod_base n b e = pow-mod b e n

pub power-zero : (n b : ℕ) → power n b 0 ≡ 1 % n
unfolding power
power-zero n b = ap (λ x. x % n) (pow-zero b)

pub power-one : (n b : ℕ) → power n b 1 ≡ b % n
unfolding power
power-one n b = ap (λ x. x % n) (pow-suc b 0 ∙ ap (λ x. x * b) (pow-zero b) ∙ one-mul b)

pub power-add : (n b i j : ℕ) → power n b (i + j) ≡ (power n b i * power n b j) % n
unfolding power
power-add n b i j = ap (λ x. x % n) (pow-add b i j) ∙ mul-mod (b ^ i) (b ^ j) n

pub power-suc : (n b e : ℕ) → power n b (suc e) ≡ (power n b e * b) % n
unfolding power
power-suc n b e = ap (λ x. x % n) (pow-suc b e) ∙ sym (mul-mod_first (b ^ e) b n)

-- a power of a product
pub power-product : (n a b e : ℕ) → power n (a * b) e ≡ (power n a e * power n b e) % n
unfolding power
power-product n a b e = ap (λ x. x % n) (mul-pow a b e) ∙ mul-mod (a ^ e) (b ^ e) n

pow-mul : (b i j : ℕ) → b ^ (i * j) ≡ (b ^ i) ^ j
pow-mul b i zero = ap (λ x. b ^ x) (mul-zero i) ∙ pow-zero b ∙ sym (pow-zero (b ^ i))
pow-mul b i (suc j) =
    ap (λ x. b ^ x) (mul-suc i j) ∙ pow-add b (i * j) i ∙ ap (λ x. x * b ^ i) (pow-mul b i j) ∙ sym (pow-suc (b ^ i) j)

-- a power of a power
pub power-power : (n b i j : ℕ) → power n (power n b i) j ≡ power n b (i * j)
unfolding power
power-power n b i j = pow-mod (b ^ i) j n ∙ ap (λ x. x % n) (sym (pow-mul b i j))

pub power-one_base : (n e : ℕ) → 1 < n → power n 1 e ≡ 1
unfolding power
power-one_base n zero h = ap (λ x. x % n) (pow-zero 1) ∙ mod-eq_of_lt h
power-one_base n (suc e) h = ap (λ x. x % n) (pow-suc 1 e ∙ mul-one (1 ^ e)) ∙ power-one_base n e h

pub power-zero_base : (n e : ℕ) → power n 0 (suc e) ≡ 0
unfolding power
power-zero_base n e = ap (λ x. x % n) (pow-suc 0 e ∙ mul-zero (0 ^ e)) ∙ zero-mod n

-- a multiple of an exponent whose power is 1
pub power-multiple : (n b d c : ℕ) → 1 < n → power n b d ≡ 1 → power n b (d * c) ≡ 1
power-multiple n b d c h one = sym (power-power n b d c) ∙ ap (λ x. power n x c) one ∙ power-one_base n c h

-- The power by halving its exponent at most k times, which computes at numerals.
abbrev pub fast_power : ℕ → ℕ → ℕ → ℕ → ℕ
fast_power zero n b e = 1 % n
fast_power (suc k) n b e = (fast_power k n ((b * b) % n) (e / 2) * b ^ (e % 2)) % n

halved : (b e : ℕ) → b ^ e ≡ (b * b) ^ (e / 2) * b ^ (e % 2)
halved b e =
    ap (λ x. b ^ x) (sym (div-add-mod' e 2)) ∙ pow-add b (e / 2 * 2) (e % 2) ∙ ap (λ x. x * b ^ (e % 2)) doubled
  where
    doubled : b ^ (e / 2 * 2) ≡ (b * b) ^ (e / 2)
    doubled = ap (λ x. b ^ x) (omega arith) ∙ pow-add b (e / 2) (e / 2) ∙ sym (mul-pow b b (e / 2))

pub power-halved : (n b e : ℕ) → power n b e ≡ (power n ((b * b) % n) (e / 2) * b ^ (e % 2)) % n
unfolding power
power-halved n b e =
    ap (λ x. x % n) (halved b e) ∙ sym (mul-mod_first ((b * b) ^ (e / 2)) (b ^ (e % 2)) n)
    ∙ ap (λ x. (x * b ^ (e % 2)) % n) (sym (pow-mod (b * b) (e / 2) n))

pub power-fast : (k n b e : ℕ) → e < 2 ^ k → power n b e ≡ fast_power k n b e
power-fast zero n b e h = ap (λ x. power n b x) (omega arith) ∙ power-zero n b
power-fast (suc k) n b e h =
    power-halved n b e
    ∙ ap (λ x. (x * b ^ (e % 2)) % n) (power-fast k n ((b * b) % n) (e / 2) (omega (arith, pow-suc 2 k)))

-- ---- one turn of a loop by halving, and steps of an addition chain

pub power-turn_odd : (n p b e : ℕ) → e % 2 ≡ 1 → ((p * b) % n * power n ((b * b) % n) (e / 2)) % n ≡ (p * power n b e) % n
power-turn_odd n p b e odd =
    mul-mod_first (p * b) (power n ((b * b) % n) (e / 2)) n ∙ ap (λ x. x % n) (turned (power n ((b * b) % n) (e / 2)))
    ∙ sym (mul-mod_second p (power n ((b * b) % n) (e / 2) * b) n) ∙ ap (λ x. (p * x) % n) (sym whole)
  where
    turned : (h : ℕ) → p * b * h ≡ p * (h * b)
    turned h = omega arith

    whole : power n b e ≡ (power n ((b * b) % n) (e / 2) * b) % n
    whole =
        power-halved n b e
        ∙ ap (λ x. (power n ((b * b) % n) (e / 2) * x) % n) (ap (λ x. b ^ x) odd ∙ pow-suc b 0 ∙ ap (λ x. x * b) (pow-zero b) ∙ one-mul b)

pub power-turn_even : (n p b e : ℕ) → e % 2 ≡ 0 → (p * power n ((b * b) % n) (e / 2)) % n ≡ (p * power n b e) % n
power-turn_even n p b e even =
    sym (mul-mod_second p (power n ((b * b) % n) (e / 2)) n) ∙ ap (λ x. (p * x) % n) (sym whole)
  where
    whole : power n b e ≡ power n ((b * b) % n) (e / 2) % n
    whole =
        power-halved n b e
        ∙ ap (λ x. x % n)
        (ap (λ x. power n ((b * b) % n) (e / 2) * x) (ap (λ x. b ^ x) even ∙ pow-zero b) ∙ mul-one (power n ((b * b) % n) (e / 2)))

pub power-two : (n b : ℕ) → power n b 2 ≡ (b * b) % n
unfolding power
power-two n b = ap (λ x. x % n) (pow-suc b 1 ∙ ap (λ x. x * b) (pow-suc b 0 ∙ ap (λ x. x * b) (pow-zero b) ∙ one-mul b))

-- a power of y times z, where both are powers of x
pub power-step : (n x y z r a k b : ℕ) → y ≡ power n x a → z ≡ power n x b → r ≡ (power n y k * z) % n → r ≡ power n x (a * k + b)
power-step n x y z r a k b ey ez er =
    er ∙ ap₂ (λ u v. (power n u k * v) % n) ey ez ∙ ap (λ u. (u * power n x b) % n) (power-power n x a k)
    ∙ sym (power-add n x (a * k) b)

pub power-shifted : (n x y r a : ℕ) → y ≡ power n x a → r ≡ (power n y 2 * x) % n → r ≡ power n x (suc (a * 2))
power-shifted n x y r a first is =
    is ∙ ap (λ z. (power n z 2 * x) % n) first ∙ ap (λ z. (z * x) % n) (power-power n x a 2) ∙ sym (power-suc n x (a * 2))

pub power-join : (n x y z r a b : ℕ) → y ≡ power n x a → z ≡ power n x b → r ≡ (y * z) % n → r ≡ power n x (a + b)
power-join n x y z r a b ey ez er = er ∙ ap₂ (λ u v. (u * v) % n) ey ez ∙ sym (power-add n x a b)

-- one squaring more
pub power-squared : (n x y k : ℕ) → y % n ≡ power n x k → ((y * y) % n) % n ≡ power n x (k * 2)
power-squared n x y k e =
    mod-mod (y * y) n ∙ mul-mod y y n ∙ ap (λ u. (u * u) % n) e ∙ sym (power-two n (power n x k)) ∙ power-power n x k 2
