-- What the entries say of small numbers.
use Rattle.facts_memory.proofs.Words.{◌≡◌, ℕ, suc, ◌+◌, ◌*◌, ◌-◌, ◌<◌, ◌≤◌, ⊎_elim, ◌⊎◌, arith, lit<, prime, felt_add, felt_sub, felt_mul}
use Rattle.facts_memory.proofs.Words.{ap, sym, ◌%◌, ◌∙◌}
use Rattle.vm_field.proofs.Algebra.{same_from_sub, zero_factor}

-- 2^32
abbrev pub limit : ℕ
limit = 4294967296

-- below a number's successor
pub last_or : (j i : ℕ) → j < suc i → (j < i) ⊎ (j ≡ i)
last_or j i h = grind arith

pub kind_from : (k : ℕ) → k < prime → felt_mul (felt_mul k (felt_sub k 1)) (felt_sub k 2) ≡ 0 → k ≤ 2
kind_from k below e =
    ⊎_elim
    (λ first. ⊎_elim (λ none. omega (arith, none)) (λ one. omega (arith, one, below)) (zero_factor k (felt_sub k 1) below (omega arith) first))
    (λ two. omega (arith, two, below)) (zero_factor (felt_mul k (felt_sub k 1)) (felt_sub k 2) (omega arith) (omega arith) e)

pub address_from : (a low high : ℕ) → a < prime → low < 65536 → high < 65536
    → felt_sub (felt_sub a low) (felt_mul 65536 high) ≡ 0 → a ≡ low + 65536 * high
address_from a low high below l h e = omega arith

pub step_from : (low high : ℕ) → low < 65536 → high < 65536 → felt_add low (felt_mul 65536 high) < limit
step_from low high l h = omega arith

-- ---- the three ways in which the order grows

-- how much a number grows beyond the step, and the sum of the three by their flags
abbrev pub over : ℕ → ℕ → ℕ → ℕ
over from to step = felt_sub (felt_sub (felt_sub to from) 1) step

abbrev pub by_flags : ℕ → ℕ → ℕ → ℕ → ℕ → ℕ
by_flags n0 n1 x y z = felt_add (felt_add (felt_mul n0 x) (felt_mul n1 y)) (felt_mul (felt_sub (felt_sub 1 n0) n1) z)

pub first_alone : (x y z : ℕ) → x < prime → by_flags 1 0 x y z ≡ 0 → x ≡ 0
first_alone x y z h e = omega arith

pub second_alone : (x y z : ℕ) → y < prime → by_flags 0 1 x y z ≡ 0 → y ≡ 0
second_alone x y z h e = omega arith

pub third_alone : (x y z : ℕ) → z < prime → by_flags 0 0 x y z ≡ 0 → z ≡ 0
third_alone x y z h e = omega arith

alone : (x : ℕ) → x < prime → felt_mul 1 x ≡ 0 → x ≡ 0
alone x h e = omega arith

pub grown : (from to step : ℕ) → from < limit → to < prime → step < limit → over from to step ≡ 0 → (from < to) × (step ≡ to - from - 1)
grown from to step f t s e = (omega arith, omega arith)

pub over_below : (from to step : ℕ) → over from to step < prime
over_below from to step = omega arith

less_below : (x y : ℕ) → felt_sub x y < prime
less_below x y = omega arith

pub same_where : (x y : ℕ) → x < prime → y < limit → felt_mul 1 (felt_sub x y) ≡ 0 → x ≡ y
same_where x y hx hy e = same_from_sub x y hx (omega arith) (alone (felt_sub x y) (less_below x y) e)

-- ---- words

-- where a word is read, its element 0 is what it was
pub read_from : (k x y : ℕ) → k ≡ 0 → x < prime → y < prime
    → felt_mul (felt_mul (felt_sub k 1) (felt_sub k 2)) (felt_sub x y) ≡ 0 → x ≡ y
read_from k x y is hx hy e =
    let twice : (2 * felt_sub x y) % prime ≡ 0
    = ap (λ k. felt_mul (felt_mul (felt_sub k 1) (felt_sub k 2)) (felt_sub x y)) (sym is) ∙ e in
    let few = less_below x y in same_from_sub x y hx hy (omega (arith, twice, few))

-- and where it is not written whole, another one is
pub kept_from : (k x y : ℕ) → k < prime → (k ≡ 1 → ⊥) → x < prime → y < prime → felt_mul (felt_sub k 1) (felt_sub x y) ≡ 0 → x ≡ y
kept_from k x y hk apart hx hy e =
    same_from_sub x y hx hy
    (⊎_elim (λ z. absurd (apart (same_from_sub k 1 hk (lit< tt) z))) (λ z. z)
    (zero_factor (felt_sub k 1) (felt_sub x y) (less_below k 1) (less_below x y) e))
