-- The order of elements as numbers, from their halves.
use Rattle.std.proofs.Common.{◌≡◌, ℕ, ◌/◌, ◌%◌, ◌^◌, ◌<◌, Bool, true, false, ◌==◌, ◌&&◌, ◌||◌, nat_lt, nat_le, Option, None, is_some, refl, sym, ◌∙◌, ap, arith}
use Rattle.std.proofs.lemmas.Bool.Decides.{nat_tests}
use Rattle.vm_field.specs.Field.{prime, felt_add, felt_sub, felt_mul}
use Rattle.vm_field.specs.Machine.{State, IsWellFormed}
use Rattle.vm_field.proofs.Elements.{elements-index}
use Rattle.vm_ops.specs.declared.cause.Cause.{Cause}
use Rattle.vm_ops.specs.declared.cause.Cause.TheVariants as causes
use Rattle.vm_ops.specs.Values.{bit_of, is_bit, or_else, unless}
use Rattle.masm_effects.specs.Effects.{are_bits, are_u32, top}
use Rattle.masm_effects.proofs.Tests.{at-most, bit-free, bit-product, bits-small, not-is, passes}

-- the bit that tells the order, from the tests of the halves
abbrev order_bit : Bool → Bool → Bool → ℕ
order_bit above below level =
    felt_sub (felt_add (bit_of above) (felt_mul (bit_of below) (bit_of level))) (felt_mul (bit_of above) (felt_mul (bit_of below) (bit_of level)))

order-bit : (above below level : Bool) → order_bit above below level ≡ bit_of (above || (below && level))
order-bit above below level =
    ap (λ (both : ℕ). felt_sub (felt_add (bit_of above) both) (felt_mul (bit_of above) both)) (bit-product below level) ∙ go above (below && level)
  where
    go : (t u : Bool) → felt_sub (felt_add (bit_of t) (bit_of u)) (felt_mul (bit_of t) (bit_of u)) ≡ bit_of (t || u)
    go true true = refl
    go true false = refl
    go false true = refl
    go false false = refl

abbrev above : ℕ → ℕ → Bool
above a b = nat_lt (a / 2 ^ 32) (b / 2 ^ 32)

abbrev below : ℕ → ℕ → Bool
below a b = nat_lt (a % 2 ^ 32) (b % 2 ^ 32)

abbrev level : ℕ → ℕ → Bool
level a b = a / 2 ^ 32 == b / 2 ^ 32

halves-tell : (a b : ℕ) → nat_lt a b ≡ above a b || (below a b && level a b)
halves-tell a b = grind (arith, nat_tests)

abbrev order_of : ℕ → ℕ → ℕ
order_of a b = order_bit (above a b) (below a b) (level a b)

pub order-is : (a b : ℕ) → order_of a b ≡ bit_of (nat_lt a b)
order-is a b = order-bit (above a b) (below a b) (level a b) ∙ ap bit_of (sym (halves-tell a b))

pub at-most-is : (a b : ℕ) → felt_sub 1 (order_of b a) ≡ bit_of (nat_le a b)
at-most-is a b = ap (felt_sub 1) (order-is b a) ∙ (not-is (nat_lt b a) ∙ ap bit_of (at-most a b))

-- the traps of the comparison, before what follows it
abbrev order_trap : ℕ → ℕ → Option Cause → Option Cause
order_trap a b later =
    or_else (unless (are_u32 (b % 2 ^ 32) (a % 2 ^ 32)) causes.NotU32)
    (or_else (unless (are_bits (bit_of (below a b)) (bit_of (level a b))) causes.NotBinary)
    (or_else (unless (are_u32 (b / 2 ^ 32) (a / 2 ^ 32)) causes.NotU32)
    (or_else (unless (are_bits (bit_of (above a b)) (felt_mul (bit_of (below a b)) (bit_of (level a b)))) causes.NotBinary) later)))

product-small : (t0 t1 t2 : Bool) → are_bits (bit_of t0) (felt_mul (bit_of t1) (bit_of t2)) ≡ true
product-small t0 t1 t2 = ap (are_bits (bit_of t0)) (bit-product t1 t2) ∙ bits-small t0 (t1 && t2)

two-small : (m n : ℕ) → m < 2 ^ 32 → n < 2 ^ 32 → are_u32 m n ≡ true
two-small m n h k = grind (arith, nat_tests)

order-free : (a b : ℕ) (later : Option Cause) → a < prime → b < prime → order_trap a b later ≡ later
order-free a b later h k =
    passes (are_u32 (b % 2 ^ 32) (a % 2 ^ 32)) causes.NotU32 _ (two-small (b % 2 ^ 32) (a % 2 ^ 32) (omega arith) (omega arith))
    ∙ (passes (are_bits (bit_of (below a b)) (bit_of (level a b))) causes.NotBinary _ (bits-small (below a b) (level a b))
    ∙ (passes (are_u32 (b / 2 ^ 32) (a / 2 ^ 32)) causes.NotU32 _ (two-small (b / 2 ^ 32) (a / 2 ^ 32) (omega arith) (omega arith))
    ∙ passes (are_bits (bit_of (above a b)) (felt_mul (bit_of (below a b)) (bit_of (level a b)))) causes.NotBinary later
    (product-small (above a b) (below a b) (level a b))))

pub order-alone : (a b : ℕ) → a < prime → b < prime → is_some (order_trap a b None) ≡ false
order-alone a b h k = ap is_some (order-free a b None h k)

pub order-denied : (a b : ℕ) → a < prime → b < prime
    → is_some (order_trap a b (or_else (unless (is_bit (order_of a b)) causes.NotBinary) None)) ≡ false
order-denied a b h k =
    ap is_some (order-free a b (or_else (unless (is_bit (order_of a b)) causes.NotBinary) None) h k)
    ∙ (ap (λ bit. is_some (or_else (unless (is_bit bit) causes.NotBinary) None)) (order-is a b) ∙ bit-free (nat_lt a b))

pub cell-small : (s : State) (k : ℕ) → IsWellFormed s → top s k < prime
cell-small s k well = elements-index s.core.stack k well.core.cells
