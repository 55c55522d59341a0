-- Arithmetic modulo the prime 2^64 - 2^32 + 1. An element of the field is a number below it.
use Rattle.std.specs.Prelude.{ℕ, zero, suc, ◌+◌, ◌-◌, ◌*◌, ◌%◌, ◌^◌, ◌<◌, Bool, ◌==◌, nat_lt, if◌then◌else◌, List, All, Option, Some, None}

-- 2^64 - 2^32 + 1
abbrev pub prime : ℕ
prime = 18446744069414584321

-- each number of a list is an element
abbrev pub AreElements : List ℕ → Type 0
AreElements xs = All (λ e. e < prime) xs

-- the element of a number, if it is one
abbrev pub element_from : ℕ → Option ℕ
element_from n = if nat_lt n prime then Some n else None

abbrev pub felt_add : ℕ → ℕ → ℕ
felt_add a b = (a + b) % prime

abbrev pub felt_sub : ℕ → ℕ → ℕ
felt_sub a b = (a + (prime - b)) % prime

abbrev pub felt_mul : ℕ → ℕ → ℕ
felt_mul a b = (a * b) % prime

abbrev pub felt_neg : ℕ → ℕ
felt_neg a = (prime - a) % prime

-- the power of a number modulo n; 0 to the power 0 is 1
unfoldable pub power : ℕ → ℕ → ℕ → ℕ
power n base exponent = (base ^ exponent) % n

abbrev pub felt_pow : ℕ → ℕ → ℕ
felt_pow base exponent = power prime base exponent

-- the greatest number below the bound that passes the test, and 0 where none does
unfoldable pub one_below : (ℕ → Bool) → ℕ → ℕ
one_below test zero = 0
one_below test (suc n) = if test n then n else one_below test n

-- The element whose product with a is 1; 0 for 0. There is one for each other element (the laws of `field_laws`).
unfoldable pub felt_inv : ℕ → ℕ
felt_inv a = one_below (λ b. felt_mul a b == 1) prime

-- the element whose seventh power is x, of which there is exactly one (the laws of `field_laws`)
unfoldable pub seventh_root : ℕ → ℕ
seventh_root x = one_below (λ y. felt_pow y 7 == x) prime
