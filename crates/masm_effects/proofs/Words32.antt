-- The instructions on numbers of 32 bits, but for shifts and rotations: tests and arithmetic.
use Rattle.std.proofs.Common.{◌≡◌, ℕ, ◌-◌, ◌/◌, ◌%◌, ◌^◌, Bool, true, false, not, ◌==◌, ◌||◌, nat_lt, None, is_some, refl, arith}
use Rattle.std.proofs.lemmas.Bool.Decides.{nat_tests}
use Rattle.vm_ops.specs.declared.cause.Cause.TheVariants as causes
use Rattle.vm_ops.specs.Values.{bit_of, is_u32, or_else, unless}
use Rattle.masm_effects.specs.Effects.{difference, not_u32}

-- the high part is 0 exactly where the number has 32 bits
pub high-none : (n : ℕ) → (n / 2 ^ 32 == 0) ≡ is_u32 n
high-none n = grind (arith, nat_tests)

-- a result of more than 32 bits traps
pub carry-trap : (test : Bool) (n : ℕ)
    → is_some (or_else (unless test causes.NotU32) (or_else (unless (bit_of (n / 2 ^ 32 == 0) == 1) causes.AssertFailed) None))
    ≡ not test || not (is_u32 n)
carry-trap test n = rw high-none (go test (is_u32 n))
  where
    go : (test small : Bool)
        → is_some (or_else (unless test causes.NotU32) (or_else (unless (bit_of small == 1) causes.AssertFailed) None)) ≡ not test || not small
    go true true = refl
    go true false = refl
    go false small = refl

-- else the low part is the result
pub carry-is : (test : Bool) (n : ℕ) → not test || not (is_u32 n) ≡ false → n % 2 ^ 32 ≡ n
carry-is test n free = grind (arith, nat_tests)

pub borrow-trap : (test less : Bool)
    → is_some (or_else (unless test causes.NotU32) (or_else (unless (bit_of (bit_of less == 0) == 1) causes.AssertFailed) None))
    ≡ not test || less
borrow-trap true true = refl
borrow-trap true false = refl
borrow-trap false less = refl

pub borrow-is : (b a : ℕ) → not_u32 b a || nat_lt a b ≡ false → difference a b ≡ a - b
borrow-is b a free = grind (arith, nat_tests)

pub quotient-free : (test some : Bool)
    → is_some (or_else (or_else (unless test causes.NotU32) (unless (not some) causes.DivideByZero)) None) ≡ not test || some
quotient-free true true = refl
quotient-free true false = refl
quotient-free false some = refl
