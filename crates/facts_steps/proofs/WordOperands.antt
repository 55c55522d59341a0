-- The operands that are the numbers of their limbs have 32 bits.
use Rattle.facts_steps.proofs.Words
use Words.{◌≡◌, ℕ, ◌+◌, ◌^◌, ◌<◌, ◌≤◌, true, List, arith, lit≤, Op, s, count_of_limbs, limbs, off, IsLimbRow, MovesLimbs, has_second, has_third, LooksUpLimbs}
use Words.ops
use Rattle.facts_steps.proofs.Numbers.{limbs_below}

-- what the rows show of limbs, with the 16 bits of each
pub record HasLimbs (op : Op) (x y : List ℕ) : Type 0 where
  pub row : IsLimbRow op x
  pub pair : MovesLimbs op x y
  pub ranges : LooksUpLimbs op x

four_limbs : (op : Op) → has_second op ≡ true → 4 ≤ count_of_limbs op
four_limbs ops.U32Add is = lit≤ tt
four_limbs ops.U32Sub is = lit≤ tt
four_limbs ops.U32Mul is = lit≤ tt
four_limbs ops.U32Div is = lit≤ tt
four_limbs ops.U32Assert2 is = lit≤ tt
four_limbs ops.U32Add3 is = lit≤ tt
four_limbs ops.U32MAdd is = lit≤ tt
four_limbs op is = off is

six_limbs : (op : Op) → has_third op ≡ true → 6 ≤ count_of_limbs op
six_limbs ops.U32Add3 is = lit≤ tt
six_limbs ops.U32MAdd is = lit≤ tt
six_limbs op is = off is

module _ {op : Op} {x y : List ℕ} (l : HasLimbs op x y) where
  -- the number of two limbs
  pub word : {n : ℕ} (j : ℕ) → n ≡ limbs j x → j + 1 < count_of_limbs op → n < 2 ^ 32
  unfolding limbs
  word j e few = let low = limbs_below (l.ranges j (omega (arith, few))) (l.ranges (j + 1) few) in omega (arith, low, e)

  pub first_word : has_second op ≡ true → s x 0 < 2 ^ 32
  first_word is = let room = four_limbs op is in word 0 (l.row.first is) (omega (arith, room))

  pub second_word : has_second op ≡ true → s x 1 < 2 ^ 32
  second_word is = let room = four_limbs op is in word 2 (l.row.second is) (omega (arith, room))

  pub third_word : has_third op ≡ true → s x 2 < 2 ^ 32
  third_word is = let room = six_limbs op is in word 4 (l.row.third is) (omega (arith, room))
