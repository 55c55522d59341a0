-- What a row and the row behind it show of numbers of 32 bits, by the limbs of the row. That limbs have 16 bits is the range bus's.
use Rattle.std.specs.Prelude.{◌≡◌, ◌≢◌, ℕ, ◌-◌, ◌^◌, ◌<◌, Bool, true, ◌||◌, List, Some}
use Rattle.vm_field.specs.Signs.{◌⊞◌, ◌⊟◌, ◌⊠◌}
use Rattle.vm_ops.specs.declared.op.Op.{Op}
use Rattle.vm_ops.specs.declared.op.Op.TheVariants as ops
use Rattle.vm_table.specs.MainColumns.{s, t, w}
use Rattle.air_kit.specs.Flags.{is_op}
use Rattle.air_kit.specs.Places.{Spot}
use Rattle.air_kit.specs.U32Values.{limbs, two_left}

-- the operations with a third operand of 32 bits, and those with two or three
abbrev pub has_third : Op → Bool
has_third op = is_op op ops.U32Add3 || is_op op ops.U32MAdd

abbrev pub has_second : Op → Bool
has_second op =
    is_op op ops.U32Add || is_op op ops.U32Sub || is_op op ops.U32Mul || is_op op ops.U32Div || is_op op ops.U32Assert2 || has_third op

-- those that leave two words which are one element
abbrev pub has_high_word : Op → Bool
has_high_word op = is_op op ops.U32Split || is_op op ops.U32Mul || is_op op ops.U32MAdd

-- a row: its operands are the numbers of their limbs, and a divisor is greater than the remainder
pub record IsLimbRow (op : Op) (x : List ℕ) : Type 0 where
  pub first : has_second op ≡ true → s x 0 ≡ limbs 0 x
  pub second : has_second op ≡ true → s x 1 ≡ limbs 2 x
  pub third : has_third op ≡ true → s x 2 ≡ limbs 4 x
  pub remainder : is_op op ops.U32Div ≡ true → s x 0 ≡ limbs 6 x ⊞ 1 ⊞ limbs 8 x

-- The row behind it, for each operation: the low word and the high one are the numbers of their limbs, and both are the operation's
-- number. A carry is a single limb, and a borrow is 0 or 1.
pub record Splits (x y : List ℕ) : Type 0 where
  pub low : s y 1 ≡ limbs 0 x
  pub high : s y 0 ≡ limbs 2 x
  pub whole : s x 0 ≡ two_left y

pub record Adds (x y : List ℕ) : Type 0 where
  pub low : s y 1 ≡ limbs 4 x
  pub high : s y 0 ≡ t x 6
  pub whole : s x 0 ⊞ s x 1 ≡ two_left y

pub record AddsThree (x y : List ℕ) : Type 0 where
  pub low : s y 1 ≡ limbs 6 x
  pub high : s y 0 ≡ t x 8
  pub whole : s x 0 ⊞ s x 1 ⊞ s x 2 ≡ two_left y

pub record Subtracts (x y : List ℕ) : Type 0 where
  pub low : s y 1 ≡ limbs 4 x
  pub borrow : s y 0 < 2
  pub whole : s x 1 ⊞ 2 ^ 32 ⊠ s y 0 ≡ s x 0 ⊞ s y 1

pub record Multiplies (x y : List ℕ) : Type 0 where
  pub low : s y 1 ≡ limbs 4 x
  pub high : s y 0 ≡ limbs 6 x
  pub whole : s x 0 ⊠ s x 1 ≡ two_left y

pub record MultipliesAndAdds (x y : List ℕ) : Type 0 where
  pub low : s y 1 ≡ limbs 6 x
  pub high : s y 0 ≡ limbs 8 x
  pub whole : s x 0 ⊠ s x 1 ⊞ s x 2 ≡ two_left y

-- the remainder on top of the quotient
pub record Divides (x y : List ℕ) : Type 0 where
  pub quotient : s y 1 ≡ limbs 4 x
  pub remainder : s y 0 ≡ limbs 6 x
  pub whole : s x 1 ≡ s x 0 ⊠ s y 1 ⊞ s y 0

pub record MovesLimbs (op : Op) (x y : List ℕ) : Type 0 where
  pub splits : is_op op ops.U32Split ≡ true → Splits x y
  pub adds : is_op op ops.U32Add ≡ true → Adds x y
  pub adds_three : is_op op ops.U32Add3 ≡ true → AddsThree x y
  pub subtracts : is_op op ops.U32Sub ≡ true → Subtracts x y
  pub multiplies : is_op op ops.U32Mul ≡ true → Multiplies x y
  pub multiplies_and_adds : is_op op ops.U32MAdd ≡ true → MultipliesAndAdds x y
  pub divides : is_op op ops.U32Div ≡ true → Divides x y
  -- where the low word is not 0, an inverse shows that the high one is not 2^32 - 1
  pub one_way : has_high_word op ≡ true → s y 1 ≢ 0 → (2 ^ 32 - 1 ⊟ s y 0) ⊠ w x 0 ≡ 1

-- a row in its place
pub record ShowsLimbs (op : Op) (p : Spot) : Type 0 where
  pub row : IsLimbRow op p.cur
  pub pair : (y : List ℕ) → p.next ≡ Some y → MovesLimbs op p.cur y
