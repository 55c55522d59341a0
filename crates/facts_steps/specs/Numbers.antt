-- What limbs of 16 bits show of numbers of 32 bits: what is so of elements is so of the numbers.
use Rattle.std.specs.Prelude.{◌≡◌, ℕ, ◌+◌, ◌-◌, ◌*◌, ◌^◌, ◌<◌, ◌≤◌, true, List}
use Rattle.vm_field.specs.Field.{prime}
use Rattle.vm_ops.specs.declared.op.Op.{Op}
use Rattle.vm_ops.specs.declared.op.Op.TheVariants as ops
use Rattle.vm_table.specs.MainColumns.{s}
use Rattle.air_kit.specs.Flags.{is_op}
use Rattle.facts_main.specs.Limbs.{has_second, has_third}

-- the two words that a row has on top are a number, the low one below the high one, and are below the modulus together
pub record AreWords (n : ℕ) (y : List ℕ) : Type 0 where
  pub low : s y 1 < 2 ^ 32
  pub high : s y 0 < 2 ^ 32
  pub whole : n ≡ s y 1 + 2 ^ 32 * s y 0
  pub below : s y 1 + 2 ^ 32 * s y 0 < prime

-- Operands have 32 bits. The two words left are the number itself that was split, the sum or the product, none of which reaches the
-- modulus; a remainder is below its divisor.
pub record ShowsNumbers (op : Op) (x y : List ℕ) : Type 0 where
  pub first : has_second op ≡ true → s x 0 < 2 ^ 32
  pub second : has_second op ≡ true → s x 1 < 2 ^ 32
  pub third : has_third op ≡ true → s x 2 < 2 ^ 32
  pub splits : is_op op ops.U32Split ≡ true → s x 0 < prime → AreWords (s x 0) y
  pub adds : is_op op ops.U32Add ≡ true → (s x 1 + s x 0 ≤ 2 * (2 ^ 32 - 1)) × AreWords (s x 1 + s x 0) y
  pub adds_three : is_op op ops.U32Add3 ≡ true → (s x 2 + s x 1 + s x 0 ≤ 3 * (2 ^ 32 - 1)) × AreWords (s x 2 + s x 1 + s x 0) y
  pub multiplies : is_op op ops.U32Mul ≡ true → AreWords (s x 1 * s x 0) y
  pub multiplies_and_adds : is_op op ops.U32MAdd ≡ true → AreWords (s x 1 * s x 0 + s x 2) y
  pub divides : is_op op ops.U32Div ≡ true → (s x 1 ≡ s y 1 * s x 0 + s y 0) × (s y 0 < s x 0)
