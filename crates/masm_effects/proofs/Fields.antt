-- The instructions of field arithmetic, and tests of equality.
use Rattle.std.proofs.Common.{◌≡◌, ℕ, ◌%◌, ◌^◌, Bool, true, false, not, None, is_some, refl, arith, lt-ltb}
use Rattle.vm_field.specs.Field.{felt_add, felt_sub, felt_neg}
use Rattle.vm_ops.specs.declared.cause.Cause.TheVariants as causes
use Rattle.vm_ops.specs.Values.{is_u32, or_else, unless}

-- a sum with the negative
pub sub-is : (b a : ℕ) → felt_add (felt_neg b) a ≡ felt_sub a b
sub-is b a = omega arith

-- an element is 0, or it is not
pub zero-trap : (test : Bool) → is_some (or_else (unless (not test) causes.ZeroInverse) None) ≡ test
zero-trap true = refl
zero-trap false = refl

-- the lower half is odd exactly where the number is
pub odd-is : (a : ℕ) → a % 2 ^ 32 % 2 ≡ a % 2
odd-is a = omega arith

pub odd-free : (a : ℕ) → is_some (or_else (or_else (unless (is_u32 (a % 2 ^ 32)) causes.NotU32) None) None) ≡ false
odd-free a = rw (lt-ltb (a % 2 ^ 32) (2 ^ 32) (omega arith)) refl
