-- The instructions on the bits and the order of numbers of 32 bits.
use Rattle.std.proofs.Common.{◌≡◌, ℕ, ◌-◌, ◌^◌, max, min, Bool, false, cond, not, ◌==◌, ◌&&◌, nat_lt, nat_le, List, [], ◌∷◌, ◌++◌, slice_index, None, is_some, ◌∙◌, ap, arith, bit_and, bit_or, ◌<◌}
use Rattle.std.proofs.lemmas.Bool.Decides.{nat_tests}
use Rattle.vm_field.specs.Field.{felt_add, felt_sub, felt_neg}
use Rattle.vm_ops.specs.declared.cause.Cause.TheVariants as causes
use Rattle.vm_ops.specs.Values.{bit_of, is_bit, is_u32, or_else, unless}
use Rattle.masm_effects.specs.Effects.{are_u32, not_u32}
use Rattle.std.proofs.lemmas.Nat.{and_le_l, and_le_r}
use lib.Bits.{or_add_and}
use Rattle.masm_effects.proofs.Tests.{at-most, bit-free, not-is, one-trap, trap-alone}

-- the sum less the common bits
pub or-is : (b a : ℕ) → not_u32 b a ≡ false → felt_add (felt_add (felt_neg (bit_and a b)) b) a ≡ bit_or a b
or-is b a free =
    let sizes : (b < 2 ^ 32) × (a < 2 ^ 32) = grind (arith, nat_tests) in
    let common = or_add_and a b in
    let least = and_le_l a b in
    let most = and_le_r a b in
    omega arith

pub complement-is : (a : ℕ) → not (is_u32 a) ≡ false → felt_add (felt_neg a) 4294967295 ≡ 2 ^ 32 - 1 - a
complement-is a free = grind (arith, nat_tests)

pub not-less : (a b : ℕ) → felt_sub 1 (bit_of (nat_lt b a)) ≡ bit_of (nat_le a b)
not-less a b = not-is (nat_lt b a) ∙ ap bit_of (at-most a b)

-- the operands' trap, and that of a truth value, which there is not
pub then-not : (test less : Bool)
    → is_some (or_else (unless test causes.NotU32) (or_else (unless (is_bit (bit_of less)) causes.NotBinary) None)) ≡ not test
then-not test less = trap-alone test causes.NotU32 _ (λ e. bit-free less)

-- the operands in their other order
turned : (first second : Bool) → not (first && second) ≡ not (second && first)
turned first second = grind (arith, nat_tests)

pub turned-trap : (b a : ℕ) → is_some (or_else (unless (are_u32 a b) causes.NotU32) None) ≡ not_u32 b a
turned-trap b a = one-trap (are_u32 a b) causes.NotU32 ∙ turned (is_u32 a) (is_u32 b)

pub turned-not : (b a : ℕ)
    → is_some (or_else (unless (are_u32 a b) causes.NotU32) (or_else (unless (is_bit (bit_of (nat_lt b a))) causes.NotBinary) None)) ≡ not_u32 b a
turned-not b a = then-not (are_u32 a b) (nat_lt b a) ∙ turned (is_u32 a) (is_u32 b)

-- the cells behind CSWAP
abbrev swapped : Bool → ℕ → ℕ → List ℕ
swapped less b a = cond (bit_of less == 0) (b ∷ a ∷ []) (a ∷ b ∷ []) ++ []

pub max-is : (b a : ℕ) → slice_index (swapped (nat_lt a b) b a) 1 ≡ max a b
max-is b a = grind (arith, nat_tests)

pub min-is : (b a : ℕ) → slice_index (swapped (nat_lt a b) b a) 0 ≡ min a b
min-is b a = grind (arith, nat_tests)
