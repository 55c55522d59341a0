-- Tests of operands, and the traps that they decide.
use Rattle.std.proofs.Common.{◌≡◌, ℕ, Bool, true, false, ◌&&◌, ◌||◌, not, Option, None, is_some, refl, arith, ◌==◌, nat_lt, nat_le, ◌<◌, zero, suc, max}
use Rattle.std.proofs.lemmas.Bool.Decides.{nat_tests}
use Rattle.vm_field.specs.Field.{felt_mul, felt_sub}
use Rattle.vm_ops.specs.declared.cause.Cause.{Cause}
use Rattle.vm_ops.specs.declared.cause.Cause.TheVariants as causes
use Rattle.vm_ops.specs.Values.{bit_of, is_bit, or_else, unless}
use Rattle.masm_effects.specs.Effects.{are_bits}

-- one test, and nothing else
pub one-trap : (test : Bool) (cause : Cause) → is_some (or_else (unless test cause) None) ≡ not test
one-trap true cause = refl
one-trap false cause = refl

-- one test behind another
pub two-traps : (test further : Bool) (cause cause' : Cause)
    → is_some (or_else (unless test cause) (or_else (unless further cause') None)) ≡ not test || not further
two-traps true true cause cause' = refl
two-traps true false cause cause' = refl
two-traps false further cause cause' = refl

-- where a test's alternative is free, it holds
pub free-of : (test : Bool) → not test ≡ false → test ≡ true
free-of true e = refl
free-of false e = cc

-- a test, and nothing that traps where it holds
pub trap-alone : (test : Bool) (cause : Cause) (later : Option Cause) → (test ≡ true → is_some later ≡ false)
    → is_some (or_else (unless test cause) later) ≡ not test
trap-alone true cause later e = e refl
trap-alone false cause later e = refl

-- a test that holds
pub passes : (test : Bool) (cause : Cause) (later : Option Cause) → test ≡ true → or_else (unless test cause) later ≡ later
passes true cause later e = refl
passes false cause later e = cc

no-bits : (b a : ℕ) → 1 < max b a → is_bit b && is_bit a ≡ true → ⊥
no-bits b a great e = grind (arith, nat_tests)

-- two bits
pub bit-pairs : (P : ℕ → ℕ → Type 0) → P 0 0 → P 0 1 → P 1 0 → P 1 1 → (b a : ℕ) → is_bit b && is_bit a ≡ true → P b a
bit-pairs P p00 p01 p10 p11 zero zero e = p00
bit-pairs P p00 p01 p10 p11 zero (suc zero) e = p01
bit-pairs P p00 p01 p10 p11 (suc zero) zero e = p10
bit-pairs P p00 p01 p10 p11 (suc zero) (suc zero) e = p11
bit-pairs P p00 p01 p10 p11 zero (suc (suc a)) e = absurd (no-bits zero (suc (suc a)) (omega arith) e)
bit-pairs P p00 p01 p10 p11 (suc zero) (suc (suc a)) e = absurd (no-bits (suc zero) (suc (suc a)) (omega arith) e)
bit-pairs P p00 p01 p10 p11 (suc (suc b)) a e = absurd (no-bits (suc (suc b)) a (omega arith) e)

pub same-back : (a b : ℕ) → (a == b) ≡ (b == a)
same-back a b = grind (arith, nat_tests)

pub at-most : (a b : ℕ) → not (nat_lt b a) ≡ nat_le a b
at-most a b = grind (arith, nat_tests)

-- the other truth value
pub not-is : (test : Bool) → felt_sub 1 (bit_of test) ≡ bit_of (not test)
not-is true = refl
not-is false = refl

-- a truth value is a bit
pub bit-free : (test : Bool) → is_some (or_else (unless (is_bit (bit_of test)) causes.NotBinary) None) ≡ false
bit-free true = refl
bit-free false = refl

-- the product of two truth values, which are bits
pub bit-product : (t u : Bool) → felt_mul (bit_of t) (bit_of u) ≡ bit_of (t && u)
bit-product true true = refl
bit-product true false = refl
bit-product false true = refl
bit-product false false = refl

pub bits-small : (t u : Bool) → are_bits (bit_of t) (bit_of u) ≡ true
bits-small true true = refl
bits-small true false = refl
bits-small false true = refl
bits-small false false = refl
