-- Products and quotients of numbers of 32 bits, as elements.
use Rattle.facts_steps.proofs.Words.{◌≡◌, ◌≢◌, ℕ, ◌+◌, ◌-◌, ◌*◌, ◌/◌, ◌%◌, ◌^◌, ◌<◌, ◌≤◌, ap, ap₂, sym, ◌∙◌, arith, prime, felt_add, felt_mul}
use Rattle.std.proofs.Math.Nat.{mul-le-mul, mul-le-mul_left, mul_comm, mod-lt}
use Rattle.std.proofs.lemmas.Nat.{mod-mul-add, div-mul-add, div-add-mod'}
use Rattle.facts_steps.proofs.Numbers.{TwoWords}

-- ---- products

product_low : {a b : ℕ} → a < 2 ^ 32 → b < 2 ^ 32 → a * b ≤ (2 ^ 32 - 1) * (2 ^ 32 - 1)
product_low {a = a} {b = b} la lb =
    mul-le-mul {n₁ = a} {m₁ = b} {n₂ = 2 ^ 32 - 1} {m₂ = 2 ^ 32 - 1} (omega (arith, la)) (omega (arith, lb))

pub product_is : {a b : ℕ} (lo hi : ℕ) → a < 2 ^ 32 → b < 2 ^ 32 → lo + 2 ^ 32 * hi < prime → felt_mul a b ≡ felt_add lo (felt_mul (2 ^ 32) hi)
    → b * a ≡ lo + 2 ^ 32 * hi
product_is {a = a} {b = b} lo hi la lb below e =
    let most = product_low la lb in
    let same : a * b ≡ lo + 2 ^ 32 * hi = omega (arith, most, below, e) in mul_comm b a ∙ same

pub product_sum_is : {a b c : ℕ} (lo hi : ℕ) → a < 2 ^ 32 → b < 2 ^ 32 → c < 2 ^ 32 → lo + 2 ^ 32 * hi < prime
    → felt_add (felt_mul a b) c ≡ felt_add lo (felt_mul (2 ^ 32) hi) → b * a + c ≡ lo + 2 ^ 32 * hi
product_sum_is {a = a} {b = b} {c = c} lo hi la lb lc below e =
    let most = product_low la lb in
    let same : a * b + c ≡ lo + 2 ^ 32 * hi = omega (arith, most, lc, below, e) in ap (λ n. n + c) (mul_comm b a) ∙ same

pub product_below : {a b : ℕ} → a < 2 ^ 32 → b < 2 ^ 32 → b * a < prime
product_below la lb = let most = product_low lb la in omega (arith, most)

pub product_sum_below : {a b c : ℕ} → a < 2 ^ 32 → b < 2 ^ 32 → c < 2 ^ 32 → b * a + c < prime
product_sum_below la lb lc = let most = product_low lb la in omega (arith, most, lc)

pub product_make : {a b lo hi : ℕ} → a < 2 ^ 32 → b < 2 ^ 32 → TwoWords (b * a) lo hi → felt_mul a b ≡ felt_add lo (felt_mul (2 ^ 32) hi)
product_make {a = a} {b = b} {lo = lo} {hi = hi} la lb w = ap (λ n. n % prime) (mul_comm a b) ∙ once (b * a) (product_below la lb) w
  where
    once : (n : ℕ) → n < prime → TwoWords n lo hi → n % prime ≡ felt_add lo (felt_mul (2 ^ 32) hi)
    once n low k = omega (arith, low, k.low, k.high)

pub product_sum_make : {a b c lo hi : ℕ} → a < 2 ^ 32 → b < 2 ^ 32 → c < 2 ^ 32 → TwoWords (b * a + c) lo hi
    → felt_add (felt_mul a b) c ≡ felt_add lo (felt_mul (2 ^ 32) hi)
product_sum_make {a = a} {b = b} {c = c} {lo = lo} {hi = hi} la lb lc w =
    ap (λ n. felt_add (n % prime) c) (mul_comm a b) ∙ once (b * a) (product_sum_below la lb lc) w
  where
    once : (n : ℕ) → n + c < prime → TwoWords (n + c) lo hi → felt_add (n % prime) c ≡ felt_add lo (felt_mul (2 ^ 32) hi)
    once n low k = omega (arith, low, k.low, k.high)

-- ---- quotients

-- the divisor is the remainder, one, and what is left
pub divisor_is : {b r l : ℕ} → r < 2 ^ 32 → l < 2 ^ 32 → b ≡ felt_add (felt_add r 1) l → b ≡ r + 1 + l
divisor_is lr ll e = omega arith

pub divisor_make : {b r l : ℕ} → b < 2 ^ 32 → r < b → l ≡ b - r - 1 → b ≡ felt_add (felt_add r 1) l
divisor_make lb less e = omega arith

pub record Divided (a b r q : ℕ) : Type 0 where
  pub remainder : r ≡ a % b
  pub quotient : q ≡ a / b

pub whole_division : {a b q r : ℕ} → a < 2 ^ 32 → b < 2 ^ 32 → q < 2 ^ 32 → r < 2 ^ 32 → a ≡ felt_add (felt_mul b q) r → a ≡ q * b + r
whole_division {a = a} {b = b} {q = q} {r = r} la lb lq lr e =
    let most = product_low lb lq in
    let same : a ≡ b * q + r = omega (arith, la, most, lr, e) in same ∙ ap (λ n. n + r) (mul_comm b q)

pub divided_from : {a b r q : ℕ} → a ≡ q * b + r → r < b → Divided a b r q
divided_from {b = b} {r = r} {q = q} whole less = record {
  remainder = sym (mod-mul-add q b r less) ∙ ap (λ n. n % b) (sym whole);
  quotient = sym (div-mul-add q b r less) ∙ ap (λ n. n / b) (sym whole);
}

pub divided_low : {a b r q : ℕ} → a < 2 ^ 32 → b ≢ 0 → Divided a b r q → q < 2 ^ 32
divided_low {a = a} {b = b} la some d =
    let whole : a / b * b + a % b ≡ a = div-add-mod' a b in
    let at_least : a / b * 1 ≤ a / b * b = mul-le-mul_left (a / b) (omega (arith, some)) in
    omega (arith, la, whole, at_least, d.quotient)

pub remainder_less : {a b r q : ℕ} → b ≢ 0 → Divided a b r q → r < b
remainder_less {a = a} {b = b} some d = let k : a % b < b = mod-lt a (omega (arith, some)) in omega (arith, k, d.remainder)

pub divided_make : {a b r q : ℕ} → a < 2 ^ 32 → b < 2 ^ 32 → Divided a b r q → a ≡ felt_add (felt_mul b q) r
divided_make {a = a} {b = b} la lb d =
    sym (small (a / b * b) (a % b) (omega (arith, la, div-add-mod' a b)) ∙ div-add-mod' a b)
    ∙ ap₂ (λ u v. felt_add u v) (ap (λ n. n % prime) (mul_comm (a / b) b) ∙ ap (felt_mul b) (sym d.quotient)) (sym d.remainder)
  where
    small : (m n : ℕ) → m + n < prime → felt_add (m % prime) n ≡ m + n
    small m n low = omega (arith, low)
