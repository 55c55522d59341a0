-- Powers of two, and the shifts and rotations that are products with them.
use Rattle.std.proofs.Common.{◌≡◌, ℕ, zero, suc, ◌+◌, ◌-◌, ◌*◌, ◌/◌, ◌%◌, ◌^◌, ◌<◌, ◌≤◌, Bool, true, false, not, ◌==◌, ◌&&◌, nat_lt, Option, None, is_some, refl, sym, ◌∙◌, ap, inl, inr, arith, lt-ltb, le-ltb, eqb-true, ne_eqb, add-one}
use Rattle.std.proofs.lemmas.Bool.Decides.{nat_tests}
use Rattle.std.proofs.Math.Nat.{mul-div-mul_right, mul-div_cancel, mul-mod_left, div-le_self}
use Rattle.std.proofs.lemmas.Bool.{agree_below_at, cases_lt}
use Rattle.std.proofs.lemmas.Grind.{pow_more}
use Rattle.std.proofs.lemmas.Nat.{mod-pow-add, pow-add, pow_pos}
use Rattle.vm_field.specs.Field.{felt_add, felt_mul}
use Rattle.vm_ops.specs.declared.cause.Cause.{Cause}
use Rattle.vm_ops.specs.declared.cause.Cause.TheVariants as causes
use Rattle.vm_ops.specs.Values.{bit_of, is_u32, or_else, unless}
use Rattle.masm_effects.specs.Effects.{no_shift, turned_left, turned_right}
use Rattle.masm_effects.proofs.Tests.{one-trap}

-- what a step makes of the power so far: a factor, less 1, where the operand that is left is odd
abbrev raised : ℕ → ℕ → ℕ → ℕ
raised power less v = felt_mul power (felt_add (felt_mul less (v % 2)) 1)

-- the power that the six steps make
abbrev power_of : ℕ → ℕ
power_of a =
    raised (raised (raised (raised (raised (raised 1 1 a) 3 (a / 2)) 15 (a / 2 / 2)) 255 (a / 2 / 2 / 2)) 65535 (a / 2 / 2 / 2 / 2))
    4294967295 (a / 2 / 2 / 2 / 2 / 2)

-- the traps of a step, and of so many and the test behind them, before what follows
abbrev halved_trap : ℕ → Option Cause → Option Cause
halved_trap v later = or_else (or_else (unless (is_u32 v) causes.NotU32) None) later

abbrev halving_trap : ℕ → ℕ → Option Cause → Option Cause
halving_trap zero v later = or_else (unless (bit_of (v == 0) == 1) causes.AssertFailed) later
halving_trap (suc k) v later = halved_trap v (halving_trap k (v / 2) later)

abbrev power_trap : ℕ → Option Cause → Option Cause
power_trap a later = halving_trap 6 a later

halved-free : (v : ℕ) (later : Option Cause) → v < 2 ^ 32 → halved_trap v later ≡ later
halved-free v later h = rw (lt-ltb v (2 ^ 32) h) refl

double : (k : ℕ) → 2 ^ suc k ≡ 2 ^ k * 2
double k = rw add-one at (pow_more 2 k)

halving-goes : (k v : ℕ) (later : Option Cause) → v < 2 ^ k → v < 2 ^ 32 → halving_trap k v later ≡ later
halving-goes zero v later h small = let none : v ≡ 0 = omega arith in rw none refl
halving-goes (suc k) v later h small =
    let twice = double k in halved-free v _ small ∙ halving-goes k (v / 2) later (omega arith) (omega arith)

halving-stops : (k v : ℕ) (later : Option Cause) → 2 ^ k ≤ v → is_some (halving_trap k v later) ≡ true
halving-stops zero v later h = rw (ne_eqb v 0 (λ none. omega arith)) refl
halving-stops (suc k) v later h =
    let twice = double k in
    elim (cases_lt v (2 ^ 32)) [
      | inl small ↦ ap is_some (halved-free v (halving_trap k (v / 2) later) small) ∙ halving-stops k (v / 2) later (omega arith)
      | inr great ↦ rw (le-ltb v (2 ^ 32) great) refl
    ]

pub power-is : (a : ℕ) → a < 64 → power_of a ≡ 2 ^ a
power-is a h = eqb-true (power_of a) (2 ^ a) (agree_below_at (λ a. power_of a == 2 ^ a) (λ a. true) 64 a refl h)

-- what follows the steps, which depends on the power, and the trap of it all
power-then : (later : ℕ → Option Cause) (a : ℕ) (traps : Bool) → (a < 64 → is_some (later (2 ^ a)) ≡ traps) → (64 ≤ a → traps ≡ true)
    → is_some (power_trap a (later (power_of a))) ≡ traps
power-then later a traps within beyond =
    elim (cases_lt a 64) [
      | inl less ↦
          let is = power-is a less in
          ap is_some (halving-goes 6 a (later (power_of a)) less (omega arith)) ∙ (ap (λ power. is_some (later power)) is ∙ within less)
      | inr most ↦ halving-stops 6 a (later (power_of a)) most ∙ sym (beyond most)
    ]

pub power-trap : (a : ℕ) → is_some (power_trap a None) ≡ not (nat_lt a 64)
power-trap a =
    power-then (λ power. None) a (not (nat_lt a 64)) (λ less. sym (ap not (lt-ltb a 64 less))) (λ most. ap not (le-ltb a 64 most))

-- a power below 64 has 32 bits where the exponent is below 32
power-small : (b : ℕ) → b < 64 → is_u32 (2 ^ b) ≡ nat_lt b 32
power-small b h = agree_below_at (λ b. is_u32 (2 ^ b)) (λ b. nat_lt b 32) 64 b refl h

power-some : (b : ℕ) → b < 64 → (2 ^ b == 0) ≡ false
power-some b h = agree_below_at (λ b. 2 ^ b == 0) (λ b. false) 64 b refl h

-- the amounts that an instruction may be given
pub amount : {b : ℕ} → b ≤ 31 → b < 64
amount h = omega arith

-- the traps of a product with a power, and of a quotient by one
abbrev product_trap : ℕ → ℕ → Option Cause
product_trap power a = or_else (unless (is_u32 power && is_u32 a) causes.NotU32) None

abbrev quotient_trap : ℕ → ℕ → Option Cause
quotient_trap power a =
    or_else (or_else (unless (is_u32 power && is_u32 a) causes.NotU32) (unless (not (power == 0)) causes.DivideByZero)) None

pub product-trap : (b a : ℕ) → b < 64 → is_some (product_trap (2 ^ b) a) ≡ no_shift b a
product-trap b a h = rw (power-small b h) (one-trap (nat_lt b 32 && is_u32 a) causes.NotU32)

pub quotient-trap : (b a : ℕ) → b < 64 → is_some (quotient_trap (2 ^ b) a) ≡ no_shift b a
quotient-trap b a h = rw (power-small b h, power-some b h) (go (nat_lt b 32 && is_u32 a))
  where
    go : (test : Bool) → is_some (or_else (or_else (unless test causes.NotU32) None) None) ≡ not test
    go true = refl
    go false = refl

-- no shift from 64 on
no-shift : (b a : ℕ) → 64 ≤ b → no_shift b a ≡ true
no-shift b a h = grind (arith, nat_tests)

pub shift-trap : (b a : ℕ) → is_some (power_trap b (product_trap (power_of b) a)) ≡ no_shift b a
shift-trap b a = power-then (λ power. product_trap power a) b (no_shift b a) (product-trap b a) (no-shift b a)

pub divide-trap : (b a : ℕ) → is_some (power_trap b (quotient_trap (power_of b) a)) ≡ no_shift b a
divide-trap b a = power-then (λ power. quotient_trap power a) b (no_shift b a) (quotient-trap b a) (no-shift b a)

-- a shift that doesn't trap has operands of this size
shiftable : (b a : ℕ) → no_shift b a ≡ false → (b < 32) × (a < 2 ^ 32)
shiftable b a free = grind (arith, nat_tests)

power-there : (b a : ℕ) → no_shift b a ≡ false → power_of b ≡ 2 ^ b
power-there b a free = let sizes = shiftable b a free in power-is b (omega arith)

-- the halves of a product with a power of two
product-high : (a j k : ℕ) → a * 2 ^ k / 2 ^ (j + k) ≡ a / 2 ^ j
product-high a j k = ap (λ n. a * 2 ^ k / n) (pow-add 2 j k) ∙ mul-div-mul_right a (2 ^ j) (pow_pos k)

product-low : (a j k : ℕ) → a * 2 ^ k % 2 ^ (j + k) ≡ a % 2 ^ j * 2 ^ k
product-low a j k =
    let high : a * 2 ^ k / 2 ^ k ≡ a = mul-div_cancel a (pow_pos k) in
    let low : a * 2 ^ k % 2 ^ k ≡ 0 = mul-mod_left a (2 ^ k) in
    mod-pow-add (a * 2 ^ k) j k ∙ rw (high, low) (omega arith)

-- the sum of the halves turns to the left
turned-sum : (a b : ℕ) → b ≤ 32 → a < 2 ^ 32 → felt_add (a * 2 ^ b / 2 ^ 32) (a * 2 ^ b % 2 ^ 32) ≡ turned_left a b
turned-sum a b h k =
    let split : (32 - b) + b ≡ 32 = omega arith in
    let high : a * 2 ^ b / 2 ^ 32 ≡ a / 2 ^ (32 - b) = rw split at (product-high a (32 - b) b) in
    let small = div-le_self a (2 ^ (32 - b)) in
    omega arith

pub shifted-there : (b a : ℕ) → no_shift b a ≡ false → a * power_of b % 2 ^ 32 ≡ a * 2 ^ b % 2 ^ 32
shifted-there b a free = ap (λ power. a * power % 2 ^ 32) (power-there b a free)

pub divided-there : (b a : ℕ) → no_shift b a ≡ false → a / power_of b ≡ a / 2 ^ b
divided-there b a free = ap (λ power. a / power) (power-there b a free)

pub turned : (b a : ℕ) → no_shift b a ≡ false → felt_add (a * 2 ^ b / 2 ^ 32) (a * 2 ^ b % 2 ^ 32) ≡ turned_left a b
turned b a free =
    let sizes = shiftable b a free in
    turned-sum a b (omega arith) sizes.1

-- the product with the power that the steps make
pub turned-there : (b a : ℕ) → no_shift b a ≡ false → felt_add (a * power_of b / 2 ^ 32) (a * power_of b % 2 ^ 32) ≡ turned_left a b
turned-there b a free = ap (λ power. felt_add (a * power / 2 ^ 32) (a * power % 2 ^ 32)) (power-there b a free) ∙ turned b a free

-- a rotation to the right is one to the left by the other bits
pub turned-back : (b a : ℕ) → no_shift b a ≡ false
    → felt_add (a * 2 ^ ((32 - b) % 32) / 2 ^ 32) (a * 2 ^ ((32 - b) % 32) % 2 ^ 32) ≡ turned_right a b
turned-back b a free =
    let sizes = shiftable b a free in
    elim (cases_lt 0 b) [
      | inl some ↦
          let other : (32 - b) % 32 ≡ 32 - b = omega arith in
          let split : b + (32 - b) ≡ 32 = omega arith in
          let back : 32 - (32 - b) ≡ b = omega arith in
          let low : a * 2 ^ (32 - b) % 2 ^ 32 ≡ a % 2 ^ b * 2 ^ (32 - b) = rw split at (product-low a b (32 - b)) in
          rw other (turned-sum a (32 - b) (omega arith) sizes.1 ∙ rw (back, low) (omega arith))
      | inr none ↦ (let is : b ≡ 0 = omega arith in rw is (omega arith))
    ]

pub back-trap : (b a : ℕ) → b ≤ 31 → is_some (product_trap (2 ^ ((32 - b) % 32)) a) ≡ no_shift b a
back-trap b a h =
    product-trap ((32 - b) % 32) a (omega arith) ∙ grind (arith, nat_tests)
