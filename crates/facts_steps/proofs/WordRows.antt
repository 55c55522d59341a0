-- What a step leaves of numbers of 32 bits fixes the facts of their limbs.
use Rattle.facts_steps.proofs.Words
use Words.{◌≡◌, ◌≢◌, ℕ, ◌+◌, ◌-◌, ◌/◌, ◌%◌, ◌^◌, ◌<◌, true, List, slice_index, refl, ap, sym, ◌∙◌, arith, lit<, felt_add, felt_sub, felt_mul, Op, s, w}
use Words.{is_op, count_of_limbs, limbs, two_left, off, IsLimbRow, MovesLimbs, has_second, has_third, has_high_word, limbs_filled}
use Words.ops
use Rattle.facts_main.specs.Limbs.{Splits, Adds, AddsThree, Subtracts, Multiplies, MultipliesAndAdds, Divides}
use Rattle.facts_steps.proofs.Numbers.{words_make, word_low, word_high, one_way, limbs_make, sum_make, sum_three_make, borrow_low, borrows_make}
use Rattle.facts_steps.proofs.Products.{product_make, product_sum_make, divided_make, divisor_make}
use Rattle.facts_steps.proofs.Tests.{at_op}
use Rattle.facts_steps.proofs.WordMade.{Made, left_by, mul_below, mul_add_below, rest_below, quotient_below, below_divisor, remainder_below}
use Rattle.facts_steps.proofs.WordMade.{distance_below}

module _ {op : Op} {x y : List ℕ} (m : Made op x y) where
  at_limbs : {n : ℕ} (j : ℕ) → j + 1 < count_of_limbs op → n < 2 ^ 32 → slice_index (limbs_filled op x y) j ≡ n % 2 ^ 16
      → slice_index (limbs_filled op x y) (j + 1) ≡ n / 2 ^ 16 → n ≡ limbs j x
  unfolding limbs
  at_limbs j few low first second = limbs_make low (m.limb j (omega (arith, few)) ∙ first) (m.limb (j + 1) few ∙ second)

-- ---- the row

first_filled : (op : Op) {x y : List ℕ} → Made op x y → has_second op ≡ true → s x 0 ≡ limbs 0 x
first_filled ops.U32Add m is = at_limbs m 0 (lit< tt) (m.runs.first refl) refl refl
first_filled ops.U32Sub m is = at_limbs m 0 (lit< tt) (m.runs.first refl) refl refl
first_filled ops.U32Mul m is = at_limbs m 0 (lit< tt) (m.runs.first refl) refl refl
first_filled ops.U32Div m is = at_limbs m 0 (lit< tt) (m.runs.first refl) refl refl
first_filled ops.U32Assert2 m is = at_limbs m 0 (lit< tt) (m.runs.first refl) refl refl
first_filled ops.U32Add3 m is = at_limbs m 0 (lit< tt) (m.runs.first refl) refl refl
first_filled ops.U32MAdd m is = at_limbs m 0 (lit< tt) (m.runs.first refl) refl refl
first_filled op m is = off is

second_filled : (op : Op) {x y : List ℕ} → Made op x y → has_second op ≡ true → s x 1 ≡ limbs 2 x
second_filled ops.U32Add m is = at_limbs m 2 (lit< tt) (m.runs.second refl) refl refl
second_filled ops.U32Sub m is = at_limbs m 2 (lit< tt) (m.runs.second refl) refl refl
second_filled ops.U32Mul m is = at_limbs m 2 (lit< tt) (m.runs.second refl) refl refl
second_filled ops.U32Div m is = at_limbs m 2 (lit< tt) (m.runs.second refl) refl refl
second_filled ops.U32Assert2 m is = at_limbs m 2 (lit< tt) (m.runs.second refl) refl refl
second_filled ops.U32Add3 m is = at_limbs m 2 (lit< tt) (m.runs.second refl) refl refl
second_filled ops.U32MAdd m is = at_limbs m 2 (lit< tt) (m.runs.second refl) refl refl
second_filled op m is = off is

third_filled : (op : Op) {x y : List ℕ} → Made op x y → has_third op ≡ true → s x 2 ≡ limbs 4 x
third_filled ops.U32Add3 m is = at_limbs m 4 (lit< tt) (m.runs.third refl) refl refl
third_filled ops.U32MAdd m is = at_limbs m 4 (lit< tt) (m.runs.third refl) refl refl
third_filled op m is = off is

module _ {x y : List ℕ} where
  remainder_limbs : Made ops.U32Div x y → s y 0 ≡ limbs 6 x
  remainder_limbs m = at_limbs m 6 (lit< tt) (remainder_below m) refl refl

  remainder_filled : Made ops.U32Div x y → s x 0 ≡ felt_add (felt_add (limbs 6 x) 1) (limbs 8 x)
  remainder_filled m =
      let rest : s x 0 - s y 0 - 1 ≡ limbs 8 x = at_limbs m 8 (lit< tt) (distance_below (s y 0) (m.runs.first refl)) refl refl in
      divisor_make (m.runs.first refl) (below_divisor m) (sym rest) ∙ ap (λ n. felt_add (felt_add n 1) (limbs 8 x)) (remainder_limbs m)

  -- ---- the row behind

  splits_filled : Made ops.U32Split x y → Splits x y
  unfolding two_left
  splits_filled m =
      let k = left_by ops.U32Split m in
      record {
        low = at_limbs m 0 (lit< tt) (word_low k) refl refl;
        high = at_limbs m 2 (lit< tt) (word_high m.low k) refl refl;
        whole = words_make m.low k;
      }

  adds_filled : Made ops.U32Add x y → Adds x y
  unfolding two_left
  adds_filled m =
      let k = left_by ops.U32Add m in
      record {
        low = at_limbs m 4 (lit< tt) (word_low k) refl refl;
        high = sym (m.limb 6 (lit< tt));
        whole = sum_make (m.runs.first refl) (m.runs.second refl) k;
      }

  adds_three_filled : Made ops.U32Add3 x y → AddsThree x y
  unfolding two_left
  adds_three_filled m =
      let k = left_by ops.U32Add3 m in
      record {
        low = at_limbs m 6 (lit< tt) (word_low k) refl refl;
        high = sym (m.limb 8 (lit< tt));
        whole = sum_three_make (m.runs.first refl) (m.runs.second refl) (m.runs.third refl) k;
      }

  subtracts_filled : Made ops.U32Sub x y → Subtracts x y
  subtracts_filled m =
      let k = left_by ops.U32Sub m in
      record {
        low = at_limbs m 4 (lit< tt) (rest_below k) refl refl;
        borrow = borrow_low k;
        whole = borrows_make (m.runs.second refl) (m.runs.first refl) k;
      }

  multiplies_filled : Made ops.U32Mul x y → Multiplies x y
  unfolding two_left
  multiplies_filled m =
      let k = left_by ops.U32Mul m in
      record {
        low = at_limbs m 4 (lit< tt) (word_low k) refl refl;
        high = at_limbs m 6 (lit< tt) (word_high (mul_below m) k) refl refl;
        whole = product_make (m.runs.first refl) (m.runs.second refl) k;
      }

  multiplies_and_adds_filled : Made ops.U32MAdd x y → MultipliesAndAdds x y
  unfolding two_left
  multiplies_and_adds_filled m =
      let k = left_by ops.U32MAdd m in
      record {
        low = at_limbs m 6 (lit< tt) (word_low k) refl refl;
        high = at_limbs m 8 (lit< tt) (word_high (mul_add_below m) k) refl refl;
        whole = product_sum_make (m.runs.first refl) (m.runs.second refl) (m.runs.third refl) k;
      }

  divides_filled : Made ops.U32Div x y → Divides x y
  divides_filled m = record {
    quotient = at_limbs m 4 (lit< tt) (quotient_below m) refl refl;
    remainder = remainder_limbs m;
    whole = divided_make (m.runs.second refl) (m.runs.first refl) (left_by ops.U32Div m);
  }

one_way_filled : (op : Op) {x y : List ℕ} → Made op x y → has_high_word op ≡ true → s y 1 ≢ 0
    → felt_mul (felt_sub (2 ^ 32 - 1) (s y 0)) (w x 0) ≡ 1
one_way_filled ops.U32Split m is = one_way m.low (left_by ops.U32Split m) (m.not_highest refl)
one_way_filled ops.U32Mul m is = one_way (mul_below m) (left_by ops.U32Mul m) (m.not_highest refl)
one_way_filled ops.U32MAdd m is = one_way (mul_add_below m) (left_by ops.U32MAdd m) (m.not_highest refl)
one_way_filled op m is = off is

module _ {op : Op} {x y : List ℕ} (m : Made op x y) where
  at : (other : Op) → is_op op other ≡ true → Made other x y
  at other is = at_op (λ o. Made o x y) op other is m

  pub limb_row_filled : IsLimbRow op x
  limb_row_filled = record {
    first = first_filled op m;
    second = second_filled op m;
    third = third_filled op m;
    remainder = λ is. remainder_filled (at ops.U32Div is);
  }

  pub limb_pair_filled : MovesLimbs op x y
  limb_pair_filled = record {
    splits = λ is. splits_filled (at ops.U32Split is);
    adds = λ is. adds_filled (at ops.U32Add is);
    adds_three = λ is. adds_three_filled (at ops.U32Add3 is);
    subtracts = λ is. subtracts_filled (at ops.U32Sub is);
    multiplies = λ is. multiplies_filled (at ops.U32Mul is);
    multiplies_and_adds = λ is. multiplies_and_adds_filled (at ops.U32MAdd is);
    divides = λ is. divides_filled (at ops.U32Div is);
    one_way = one_way_filled op m;
  }
