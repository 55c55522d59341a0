-- What the buses grant a row of an ordinary operation and the row behind it.
use Rattle.std.specs.Prelude.{◌≡◌, ℕ, ◌^◌, ◌<◌, Bool, true, ◌||◌, List, [], ◌∷◌, drop, bit_and, bit_xor}
use Rattle.vm_field.specs.Machine.{word_at}
use Rattle.vm_field.specs.Permutation.{permuted}
use Rattle.vm_ops.specs.Codes.{accesses_memory}
use Rattle.vm_ops.specs.declared.op.Op.{Op}
use Rattle.vm_ops.specs.declared.op.Op.TheVariants as ops
use Rattle.vm_table.specs.MainColumns.{ctx, s, t}
use Rattle.air_kit.specs.Flags.{is_op}
use Rattle.air_kit.specs.MainTuples.{count_of_limbs, twelve}
use Rattle.air_kit.specs.RowStates.{Elsewhere}

-- the range bus: limbs have 16 bits
abbrev pub LooksUpLimbs : Op → List ℕ → Type 0
LooksUpLimbs op x = (j : ℕ) → j < count_of_limbs op → t x j < 2 ^ 16

-- the bitwise bus: the operands have 32 bits, and the result is that of their bits
abbrev pub is_bitwise : Op → Bool
is_bitwise op = is_op op ops.U32And || is_op op ops.U32Xor

pub record LooksUpBits (op : Op) (x y : List ℕ) : Type 0 where
  pub top : is_bitwise op ≡ true → s x 0 < 2 ^ 32
  pub second : is_bitwise op ≡ true → s x 1 < 2 ^ 32
  pub conjunction : is_op op ops.U32And ≡ true → s y 0 ≡ bit_and (s x 0) (s x 1)
  pub difference : is_op op ops.U32Xor ≡ true → s y 0 ≡ bit_xor (s x 0) (s x 1)

-- The memory bus: the address has 32 bits, what is read is the word at this address, and MSTORE keeps three elements of it.
abbrev pub word_before : List ℕ → Elsewhere → List ℕ
word_before x e = word_at e.memory (ctx x) (s x 0)

pub record LooksUpWord (op : Op) (x y : List ℕ) (e : Elsewhere) : Type 0 where
  pub address : accesses_memory op ≡ true → s x 0 < 2 ^ 32
  pub element : is_op op ops.MLoad ≡ true → word_before x e ≡ s y 0 ∷ t x 0 ∷ t x 1 ∷ t x 2 ∷ []
  pub word : is_op op ops.MLoadW ≡ true → word_before x e ≡ s y 3 ∷ s y 2 ∷ s y 1 ∷ s y 0 ∷ []
  pub kept : is_op op ops.MStore ≡ true → drop 1 (word_before x e) ≡ t x 0 ∷ t x 1 ∷ t x 2 ∷ []

-- all of them; the hasher's bus grants the permutation
pub record Lookups (constants : List ℕ) (op : Op) (x y : List ℕ) (e : Elsewhere) : Type 0 where
  pub ranges : LooksUpLimbs op x
  pub bits : LooksUpBits op x y
  pub memory : LooksUpWord op x y e
  pub permutes : is_op op ops.HPerm ≡ true → twelve y ≡ permuted constants (twelve x)
