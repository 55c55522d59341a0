-- Sums and differences of numbers of two limbs.
use Rattle.std.proofs.Common.{◌≡◌, ℕ, ◌+◌, ◌/◌, ◌%◌, ◌^◌, ◌<◌, ◌≤◌, Bool, true, false, ◌==◌, ◌&&◌, ◌||◌, nat_lt, inl, inr, refl, sym, ◌∙◌, ap, arith, lt-ltb, le-ltb, ltb-true, eq-eqb, ne_eqb}
use Rattle.std.proofs.lemmas.Bool.{and_parts, cases_eq, cases_lt}
use Rattle.vm_field.specs.Field.{felt_add, felt_mul, felt_sub}
use Rattle.vm_ops.specs.Values.{bit_of, is_u32}
use Rattle.masm_effects.specs.Effects.{difference}
use Rattle.std_u64.specs.Outcomes.{number, wrapped_difference}
use Rattle.masm_effects.proofs.Tests.{bit-product as and-bits}

-- four limbs below 2^32, b's above a's
pub record Limbs (b1 b0 a1 a0 : ℕ) : Type 0 where
  pub high_b : b1 < 2 ^ 32
  pub low_b : b0 < 2 ^ 32
  pub high_a : a1 < 2 ^ 32
  pub low_a : a0 < 2 ^ 32

pub limbs-of : (b1 b0 a1 a0 : ℕ) → is_u32 b1 && is_u32 b0 && is_u32 a1 && is_u32 a0 ≡ true → Limbs b1 b0 a1 a0
limbs-of b1 b0 a1 a0 e =
    let outer = and_parts (is_u32 b1 && is_u32 b0 && is_u32 a1) (is_u32 a0) e in
    let inner = and_parts (is_u32 b1 && is_u32 b0) (is_u32 a1) outer.0 in
    let highs = and_parts (is_u32 b1) (is_u32 b0) inner.0 in
    record {
      high_b = ltb-true _ _ highs.0;
      low_b = ltb-true _ _ highs.1;
      high_a = ltb-true _ _ inner.1;
      low_a = ltb-true _ _ outer.1;
    }

-- the carry of the low limbs
abbrev pub low_carry : ℕ → ℕ → ℕ
low_carry b0 a0 = (b0 + a0) / 2 ^ 32

-- the sum of the high limbs with it
abbrev pub high_sum : ℕ → ℕ → ℕ → ℕ → ℕ
high_sum b1 b0 a1 a0 = low_carry b0 a0 + a1 + b1

pub carry-small : (b1 b0 a1 a0 : ℕ) → Limbs b1 b0 a1 a0 → low_carry b0 a0 < 2 ^ 32
carry-small b1 b0 a1 a0 small =
    let b0_small = small.low_b in
    let a0_small = small.low_a in
    omega arith

pub record Sums (b1 b0 a1 a0 : ℕ) : Type 0 where
  pub carry : high_sum b1 b0 a1 a0 / 2 ^ 32 ≡ (number a1 a0 + number b1 b0) / 2 ^ 64
  pub high : high_sum b1 b0 a1 a0 % 2 ^ 32 ≡ (number a1 a0 + number b1 b0) % 2 ^ 64 / 2 ^ 32
  pub low : (b0 + a0) % 2 ^ 32 ≡ (number a1 a0 + number b1 b0) % 2 ^ 64 % 2 ^ 32

pub sums : (b1 b0 a1 a0 : ℕ) → Sums b1 b0 a1 a0
sums b1 b0 a1 a0 = record { carry = omega arith; high = omega arith; low = omega arith }

-- the borrow of the low limbs from the difference of the high ones
abbrev pub last_borrow : ℕ → ℕ → ℕ → ℕ → Bool
last_borrow b1 b0 a1 a0 = nat_lt (difference a1 b1) (bit_of (nat_lt a0 b0))

abbrev pub high_difference : ℕ → ℕ → ℕ → ℕ → ℕ
high_difference b1 b0 a1 a0 = difference (difference a1 b1) (bit_of (nat_lt a0 b0))

pub record Differences (b1 b0 a1 a0 : ℕ) : Type 0 where
  pub borrow : (nat_lt a1 b1 || last_borrow b1 b0 a1 a0) ≡ nat_lt (number a1 a0) (number b1 b0)
  pub high : high_difference b1 b0 a1 a0 ≡ wrapped_difference (number b1 b0) (number a1 a0) / 2 ^ 32
  pub low : difference a0 b0 ≡ wrapped_difference (number b1 b0) (number a1 a0) % 2 ^ 32

high-borrowed : (b1 b0 a1 a0 : ℕ) → Limbs b1 b0 a1 a0 → a0 < b0
    → difference (difference a1 b1) 1 ≡ wrapped_difference (number b1 b0) (number a1 a0) / 2 ^ 32
high-borrowed b1 b0 a1 a0 small less =
    let h1 = small.high_b in
    let h2 = small.low_b in
    let h3 = small.high_a in
    let h4 = small.low_a in
    omega arith

high-plain : (b1 b0 a1 a0 : ℕ) → Limbs b1 b0 a1 a0 → b0 ≤ a0
    → difference (difference a1 b1) 0 ≡ wrapped_difference (number b1 b0) (number a1 a0) / 2 ^ 32
high-plain b1 b0 a1 a0 small most =
    let h1 = small.high_b in
    let h2 = small.low_b in
    let h3 = small.high_a in
    let h4 = small.low_a in
    omega arith

high-is : (b1 b0 a1 a0 : ℕ) → Limbs b1 b0 a1 a0
    → high_difference b1 b0 a1 a0 ≡ wrapped_difference (number b1 b0) (number a1 a0) / 2 ^ 32
high-is b1 b0 a1 a0 small =
    elim (cases_lt a0 b0) [
      | inl less ↦ rw (lt-ltb a0 b0 less) (high-borrowed b1 b0 a1 a0 small less)
      | inr most ↦ rw (le-ltb a0 b0 most) (high-plain b1 b0 a1 a0 small most)
    ]

low-is : (b1 b0 a1 a0 : ℕ) → Limbs b1 b0 a1 a0
    → difference a0 b0 ≡ wrapped_difference (number b1 b0) (number a1 a0) % 2 ^ 32
low-is b1 b0 a1 a0 small =
    let h1 = small.high_b in
    let h2 = small.low_b in
    let h3 = small.high_a in
    let h4 = small.low_a in
    omega arith

-- with no borrow of the high limbs
borrow-later : (b1 b0 a1 a0 : ℕ) → Limbs b1 b0 a1 a0 → b1 ≤ a1
    → last_borrow b1 b0 a1 a0 ≡ nat_lt (number a1 a0) (number b1 b0)
borrow-later b1 b0 a1 a0 small most =
    let h1 = small.high_b in
    let h2 = small.low_b in
    let h3 = small.high_a in
    let h4 = small.low_a in
    elim (cases_lt a0 b0) [
      | inl less ↦ rw (lt-ltb a0 b0 less) (elim (cases_lt (difference a1 b1) 1) [
        | inl none ↦ lt-ltb (difference a1 b1) 1 none ∙ sym (lt-ltb (number a1 a0) (number b1 b0) (omega arith))
        | inr some ↦ le-ltb (difference a1 b1) 1 some ∙ sym (le-ltb (number a1 a0) (number b1 b0) (omega arith))
      ])
      | inr fits ↦ rw (le-ltb a0 b0 fits)
          (le-ltb (difference a1 b1) 0 (omega arith) ∙ sym (le-ltb (number a1 a0) (number b1 b0) (omega arith)))
    ]

borrow-is : (b1 b0 a1 a0 : ℕ) → Limbs b1 b0 a1 a0
    → (nat_lt a1 b1 || last_borrow b1 b0 a1 a0) ≡ nat_lt (number a1 a0) (number b1 b0)
borrow-is b1 b0 a1 a0 small =
    let h1 = small.high_b in
    let h2 = small.low_b in
    let h3 = small.high_a in
    let h4 = small.low_a in
    elim (cases_lt a1 b1) [
      | inl less ↦ rw (lt-ltb a1 b1 less) (sym (lt-ltb (number a1 a0) (number b1 b0) (omega arith)))
      | inr most ↦ rw (le-ltb a1 b1 most) (borrow-later b1 b0 a1 a0 small most)
    ]

pub differences : (b1 b0 a1 a0 : ℕ) → Limbs b1 b0 a1 a0 → Differences b1 b0 a1 a0
differences b1 b0 a1 a0 small = record {
  borrow = borrow-is b1 b0 a1 a0 small;
  high = high-is b1 b0 a1 a0 small;
  low = low-is b1 b0 a1 a0 small;
}

-- the one of two bits
pub or-bits : (x y : Bool) → felt_sub (felt_add (bit_of x) (bit_of y)) (felt_mul (bit_of x) (bit_of y)) ≡ bit_of (x || y)
or-bits true true = refl
or-bits true false = refl
or-bits false true = refl
or-bits false false = refl

-- numbers are equal exactly where both limbs are
same-limbs : (b1 b0 a1 a0 : ℕ) → Limbs b1 b0 a1 a0 → ((b0 == a0) && (a1 == b1)) ≡ (number a1 a0 == number b1 b0)
same-limbs b1 b0 a1 a0 small =
    let h1 = small.high_b in
    let h2 = small.low_b in
    let h3 = small.high_a in
    let h4 = small.low_a in
    elim (cases_eq b0 a0) [
      | inl low ↦ rw (eq-eqb b0 a0 low) (elim (cases_eq a1 b1) [
        | inl high ↦ eq-eqb a1 b1 high ∙ sym (eq-eqb (number a1 a0) (number b1 b0) (omega arith))
        | inr other ↦ ne_eqb a1 b1 other ∙ sym (ne_eqb (number a1 a0) (number b1 b0) (λ same. other (omega arith)))
      ])
      | inr other ↦ rw (ne_eqb b0 a0 other) (sym (ne_eqb (number a1 a0) (number b1 b0) (λ same. other (omega arith))))
    ]

pub equal-bits : (b1 b0 a1 a0 : ℕ) → Limbs b1 b0 a1 a0
    → felt_mul (bit_of (b0 == a0)) (bit_of (a1 == b1)) ≡ bit_of (number a1 a0 == number b1 b0)
equal-bits b1 b0 a1 a0 small = and-bits (b0 == a0) (a1 == b1) ∙ ap bit_of (same-limbs b1 b0 a1 a0 small)
