-- The instructions on truth values, and assertions.
use Rattle.std.proofs.Common.{◌≡◌, ℕ, Bool, true, false, not, ◌==◌, ◌&&◌, Option, None, is_some, refl, ◌∙◌, ap}
use Rattle.vm_field.specs.Field.{felt_add, felt_sub, felt_mul}
use Rattle.vm_field.specs.Machine.{State}
use Rattle.vm_ops.specs.declared.cause.Cause.{Cause}
use Rattle.vm_ops.specs.declared.cause.Cause.TheVariants as causes
use Rattle.vm_ops.specs.Values.{bit_of, is_bit, or_else, unless}
use Rattle.masm_effects.specs.Effects.{are_bits, top, same_cells}
use Rattle.masm_effects.proofs.Tests.{bit-pairs, bit-product, bits-small, same-back, trap-alone}

-- the traps of the four operations of `xor` that have one
abbrev xor_trap : ℕ → ℕ → Option Cause
xor_trap b a =
    or_else (unless (are_bits b a) causes.NotBinary) (or_else (unless (are_bits b a) causes.NotBinary)
    (or_else (unless (is_bit (felt_mul b a)) causes.NotBinary)
    (or_else (unless (are_bits (felt_sub 1 (felt_mul b a)) (felt_sub (felt_add b a) (felt_mul b a))) causes.NotBinary) None)))

pub xor-trap : (b a : ℕ) → is_some (xor_trap b a) ≡ not (are_bits b a)
xor-trap b a =
    trap-alone (are_bits b a) causes.NotBinary _
    (bit-pairs
    (λ b a. is_some (or_else (unless (are_bits b a) causes.NotBinary) (or_else (unless (is_bit (felt_mul b a)) causes.NotBinary)
    (or_else (unless (are_bits (felt_sub 1 (felt_mul b a)) (felt_sub (felt_add b a) (felt_mul b a))) causes.NotBinary) None))) ≡ false)
    refl refl refl refl b a)

pub xor-is : (b a : ℕ) → are_bits b a ≡ true
    → felt_mul (felt_sub 1 (felt_mul b a)) (felt_sub (felt_add b a) (felt_mul b a)) ≡ bit_of (not (b == a))
xor-is = bit-pairs (λ b a. felt_mul (felt_sub 1 (felt_mul b a)) (felt_sub (felt_add b a) (felt_mul b a)) ≡ bit_of (not (b == a))) refl refl refl refl

-- four tests and all of them
abbrev all_four : Bool → Bool → Bool → Bool → Bool
all_four t0 t1 t2 t3 = t0 && (t1 && (t2 && (t3 && true)))

abbrev eqw_trap : Bool → ℕ → ℕ → Bool → Bool → Bool → Option Cause
eqw_trap t0 two three t1 t2 t3 =
    or_else (unless (are_bits (bit_of t0) (bit_of t1)) causes.NotBinary)
    (or_else (unless (are_bits two (bit_of t2)) causes.NotBinary)
    (or_else (unless (are_bits three (bit_of t3)) causes.NotBinary) None))

module _ (t0 t1 t2 t3 : Bool) where
  abbrev two_bits : ℕ
  two_bits = felt_mul (bit_of t0) (bit_of t1)

  abbrev three_bits : ℕ
  three_bits = felt_mul two_bits (bit_of t2)

  three-is : three_bits ≡ bit_of ((t0 && t1) && t2)
  three-is = ap (λ (bit : ℕ). felt_mul bit (bit_of t2)) (bit-product t0 t1) ∙ bit-product (t0 && t1) t2

  pub eqw-free : is_some (eqw_trap t0 two_bits three_bits t1 t2 t3) ≡ false
  eqw-free =
      ap (λ (three : ℕ). is_some (eqw_trap t0 two_bits three t1 t2 t3)) three-is
      ∙ (ap (λ (two : ℕ). is_some (eqw_trap t0 two (bit_of ((t0 && t1) && t2)) t1 t2 t3)) (bit-product t0 t1)
      ∙ rw (bits-small t0 t1, bits-small (t0 && t1) t2, bits-small ((t0 && t1) && t2) t3) refl)

  pub eqw-is : felt_mul three_bits (bit_of t3) ≡ bit_of (all_four t0 t1 t2 t3)
  eqw-is = ap (λ (bit : ℕ). felt_mul bit (bit_of t3)) three-is ∙ (bit-product ((t0 && t1) && t2) t3 ∙ ap bit_of (go t0 t1 t2 t3))
    where
      go : (t0 t1 t2 t3 : Bool) → ((t0 && t1) && t2) && t3 ≡ all_four t0 t1 t2 t3
      go false t1 t2 t3 = refl
      go true false t2 t3 = refl
      go true true false t3 = refl
      go true true true false = refl
      go true true true true = refl

pub asserts : (test : Bool) → is_some (or_else (unless (bit_of test == 1) causes.AssertFailed) None) ≡ not test
asserts true = refl
asserts false = refl

abbrev four_asserts : Bool → Bool → Bool → Bool → Option Cause
four_asserts t0 t1 t2 t3 =
    or_else (unless (bit_of t0 == 1) causes.AssertFailed) (or_else (unless (bit_of t1 == 1) causes.AssertFailed)
    (or_else (unless (bit_of t2 == 1) causes.AssertFailed) (or_else (unless (bit_of t3 == 1) causes.AssertFailed) None)))

four-asserts : (t0 t1 t2 t3 : Bool) → is_some (four_asserts t0 t1 t2 t3) ≡ not (all_four t0 t1 t2 t3)
four-asserts false t1 t2 t3 = refl
four-asserts true false t2 t3 = refl
four-asserts true true false t3 = refl
four-asserts true true true false = refl
four-asserts true true true true = refl

-- the cells are compared in either order
pub words-asserted : (s : State)
    → is_some (four_asserts (top s 4 == top s 0) (top s 5 == top s 1) (top s 6 == top s 2) (top s 3 == top s 7)) ≡ not (same_cells s 4 0 4)
words-asserted s =
    rw (same-back (top s 4) (top s 0), same-back (top s 5) (top s 1), same-back (top s 6) (top s 2))
    (four-asserts (top s 0 == top s 4) (top s 1 == top s 5) (top s 2 == top s 6) (top s 3 == top s 7))
