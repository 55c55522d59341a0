-- Limbs have 16 bits, and what the bitwise bus is asked is so.
use Rattle.facts_steps.proofs.Words
use Words.{◌≡◌, ℕ, zero, suc, ◌+◌, ◌^◌, ◌<◌, List, [], ◌∷◌, slice_index, bit_and, bit_xor, refl, ◌∙◌, arith, lit<, and_comm, xor_comm}
use Words.{left_cells, computed, Op, s, cells, seen_of, left_value, has_second, limbs_filled, halves, LooksUpLimbs, LooksUpBits}
use Words.ops
use Rattle.facts_steps.proofs.Numbers.{word_low, word_high, half_low, half_high, carry_low}
use Rattle.facts_steps.proofs.Tests.{at_op, or_second}
use Rattle.facts_steps.proofs.WordMade.{Made, left_by, mul_below, mul_add_below, rest_below, quotient_below, remainder_below, distance_below}

-- ---- limbs have 16 bits

record Small (xs : List ℕ) : Type 0 where
  each : (j : ℕ) → slice_index xs j < 2 ^ 16

no_limbs : Small []
no_limbs = record { each = λ j. lit< tt }

two_limbs : {n : ℕ} {more : List ℕ} → n < 2 ^ 32 → Small more → Small (halves n more)
two_limbs {n = n} {more = more} low rest = record { each = go }
  where
    go : (j : ℕ) → slice_index (halves n more) j < 2 ^ 16
    go zero = half_low n
    go (suc zero) = half_high low
    go (suc (suc j)) = rest.each j

one_limb : {n : ℕ} → n < 2 ^ 16 → Small (n ∷ [])
one_limb {n = n} low = record { each = go }
  where
    go : (j : ℕ) → slice_index (n ∷ []) j < 2 ^ 16
    go zero = low
    go (suc j) = lit< tt

below_sum : {a b : ℕ} → a < 2 ^ 32 → b < 2 ^ 32 → b + a < 2 ^ 48
below_sum la lb = omega arith

below_sum_three : {a b c : ℕ} → a < 2 ^ 32 → b < 2 ^ 32 → c < 2 ^ 32 → c + b + a < 2 ^ 48
below_sum_three la lb lc = omega arith

limbs_small : (op : Op) {x y : List ℕ} → Made op x y → Small (limbs_filled op x y)
limbs_small ops.U32Split m =
    let k = left_by ops.U32Split m in two_limbs (word_low k) (two_limbs (word_high m.low k) no_limbs)
limbs_small ops.U32Assert2 m = two_limbs (m.runs.first refl) (two_limbs (m.runs.second refl) no_limbs)
limbs_small ops.U32Add m =
    let k = left_by ops.U32Add m in
    two_limbs (m.runs.first refl)
    (two_limbs (m.runs.second refl)
    (two_limbs (word_low k) (one_limb (carry_low (below_sum (m.runs.first refl) (m.runs.second refl)) k))))
limbs_small ops.U32Sub m =
    two_limbs (m.runs.first refl) (two_limbs (m.runs.second refl) (two_limbs (rest_below (left_by ops.U32Sub m)) no_limbs))
limbs_small ops.U32Mul m =
    let k = left_by ops.U32Mul m in
    two_limbs (m.runs.first refl)
    (two_limbs (m.runs.second refl) (two_limbs (word_low k) (two_limbs (word_high (mul_below m) k) no_limbs)))
limbs_small ops.U32Div {x = x} {y = y} m =
    two_limbs (m.runs.first refl)
    (two_limbs (m.runs.second refl)
    (two_limbs (quotient_below m)
    (two_limbs (remainder_below m) (two_limbs (distance_below (s y 0) (m.runs.first refl)) no_limbs))))
limbs_small ops.U32Add3 m =
    let k = left_by ops.U32Add3 m in
    two_limbs (m.runs.first refl)
    (two_limbs (m.runs.second refl)
    (two_limbs (m.runs.third refl)
    (two_limbs (word_low k) (one_limb (carry_low (below_sum_three (m.runs.first refl) (m.runs.second refl) (m.runs.third refl)) k)))))
limbs_small ops.U32MAdd m =
    let k = left_by ops.U32MAdd m in
    two_limbs (m.runs.first refl)
    (two_limbs (m.runs.second refl)
    (two_limbs (m.runs.third refl) (two_limbs (word_low k) (two_limbs (word_high (mul_add_below m) k) no_limbs))))
limbs_small op m = no_limbs

module _ {op : Op} {x y : List ℕ} (m : Made op x y) where
  pub limbs_filled_low : LooksUpLimbs op x
  limbs_filled_low j few = let limb = m.limb j few in let small = (limbs_small op m).each j in omega (arith, limb, small)

  -- ---- bits

  pub bits_filled : LooksUpBits op x y
  unfolding left_value left_cells computed seen_of cells
  bits_filled = record {
    top = λ is. m.runs.first (or_second (has_second op) is);
    second = λ is. m.runs.second (or_second (has_second op) is);
    conjunction = λ is. conjunction (at_op (λ o. Made o x y) op ops.U32And is m);
    difference = λ is. difference (at_op (λ o. Made o x y) op ops.U32Xor is m);
  }
    where
      conjunction : Made ops.U32And x y → s y 0 ≡ bit_and (s x 0) (s x 1)
      conjunction k = k.tops refl 0 (lit< tt) ∙ and_comm (s x 1) (s x 0)

      difference : Made ops.U32Xor x y → s y 0 ≡ bit_xor (s x 0) (s x 1)
      difference k = k.tops refl 0 (lit< tt) ∙ xor_comm (s x 1) (s x 0)
