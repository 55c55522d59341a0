-- Where limbs have 16 bits, what rows show of elements is so of the numbers.
use Rattle.facts_steps.proofs.Words
use Words.{◌≡◌, ℕ, ◌+◌, ◌-◌, ◌*◌, ◌^◌, ◌<◌, ◌≤◌, true, List, refl, ap, sym, ◌∙◌, arith, lit<, prime, felt_add, Op, s, t, w, is_op}
use Words.{count_of_limbs, limbs, two_left, IsLimbRow, MovesLimbs, has_high_word, LooksUpLimbs}
use Words.ops
use Rattle.facts_steps.specs.Numbers.{AreWords, ShowsNumbers}
use Rattle.facts_steps.proofs.Numbers.{Borrows, borrows_from, sum_is, sum_three_is, whole_below, whole_is}
use Rattle.facts_steps.proofs.Products.{divisor_is, product_is, product_sum_is, whole_division}
use Rattle.facts_steps.proofs.Tests.{at_op}
use Rattle.facts_steps.proofs.WordOperands.{HasLimbs, first_word, second_word, third_word, word}

module _ {op : Op} {x y : List ℕ} (l : HasLimbs op x y) where
  -- two words that are one element
  both_words : {n : ℕ} (i j : ℕ) → s y 1 ≡ limbs i x → s y 0 ≡ limbs j x → i + 1 < count_of_limbs op → j + 1 < count_of_limbs op
      → has_high_word op ≡ true → (s y 1 + 2 ^ 32 * s y 0 < prime → n ≡ s y 1 + 2 ^ 32 * s y 0) → AreWords n y
  both_words i j low high few more one whole =
      let ll = word l i low few in
      let lh = word l j high more in
      let below = whole_below (w x 0) ll lh (l.pair.one_way one) in record { low = ll; high = lh; whole = whole below; below = below }

  -- a low word and a carry of 16 bits
  carried : {n : ℕ} (i j : ℕ) → s y 1 ≡ limbs i x → s y 0 ≡ t x j → i + 1 < count_of_limbs op → j < count_of_limbs op
      → (s y 1 < 2 ^ 32 → s y 0 < 2 ^ 16 → n ≡ s y 1 + 2 ^ 32 * s y 0) → AreWords n y
  carried i j low high few more whole =
      let ll = word l i low few in
      let limb = l.ranges j more in
      let lh : s y 0 < 2 ^ 16 = omega (arith, limb, high) in
      record { low = ll; high = omega (arith, lh); whole = whole ll lh; below = omega (arith, ll, lh) }

-- ---- what each operation leaves

module _ {x y : List ℕ} where
  splits_at : HasLimbs ops.U32Split x y → s x 0 < prime → AreWords (s x 0) y
  unfolding two_left
  splits_at l low =
      let k = l.pair.splits refl in
      both_words l 0 2 k.low k.high (lit< tt) (lit< tt) refl (λ below. whole_is (s y 1) (s y 0) low below k.whole)

  adds_at : HasLimbs ops.U32Add x y → (s x 1 + s x 0 ≤ 2 * (2 ^ 32 - 1)) × AreWords (s x 1 + s x 0) y
  unfolding two_left
  adds_at l =
      let k = l.pair.adds refl in
      let la = first_word l refl in
      let lb = second_word l refl in
      (omega (arith, la, lb), carried l 4 6 k.low k.high (lit< tt) (lit< tt) (λ ll lh. sum_is la lb ll lh k.whole))

  adds_three_at : HasLimbs ops.U32Add3 x y → (s x 2 + s x 1 + s x 0 ≤ 3 * (2 ^ 32 - 1)) × AreWords (s x 2 + s x 1 + s x 0) y
  unfolding two_left
  adds_three_at l =
      let k = l.pair.adds_three refl in
      let la = first_word l refl in
      let lb = second_word l refl in
      let lc = third_word l refl in
      (omega (arith, la, lb, lc), carried l 6 8 k.low k.high (lit< tt) (lit< tt) (λ ll lh. sum_three_is la lb lc ll lh k.whole))

  pub borrows_at : HasLimbs ops.U32Sub x y → Borrows (s x 1) (s x 0) (s y 0) (s y 1)
  borrows_at l =
      let k = l.pair.subtracts refl in
      borrows_from (second_word l refl) (first_word l refl) (word l 4 k.low (lit< tt)) k.borrow k.whole

  multiplies_at : HasLimbs ops.U32Mul x y → AreWords (s x 1 * s x 0) y
  unfolding two_left
  multiplies_at l =
      let k = l.pair.multiplies refl in
      both_words l 4 6 k.low k.high (lit< tt) (lit< tt) refl
      (λ below. product_is (s y 1) (s y 0) (first_word l refl) (second_word l refl) below k.whole)

  multiplies_and_adds_at : HasLimbs ops.U32MAdd x y → AreWords (s x 1 * s x 0 + s x 2) y
  unfolding two_left
  multiplies_and_adds_at l =
      let k = l.pair.multiplies_and_adds refl in
      both_words l 6 8 k.low k.high (lit< tt) (lit< tt) refl
      (λ below. product_sum_is (s y 1) (s y 0) (first_word l refl) (second_word l refl) (third_word l refl) below k.whole)

  divides_at : HasLimbs ops.U32Div x y → (s x 1 ≡ s y 1 * s x 0 + s y 0) × (s y 0 < s x 0)
  divides_at l =
      let k = l.pair.divides refl in
      let lr = word l 6 k.remainder (lit< tt) in
      let split : s x 0 ≡ s y 0 + 1 + limbs 8 x =
      divisor_is lr (word l 8 refl (lit< tt)) (l.row.remainder refl ∙ ap (λ n. felt_add (felt_add n 1) (limbs 8 x)) (sym k.remainder)) in
      (whole_division (second_word l refl) (first_word l refl) (word l 4 k.quotient (lit< tt)) lr k.whole, omega (arith, split))

pub numbers_shown : (op : Op) (x y : List ℕ) → IsLimbRow op x → MovesLimbs op x y → LooksUpLimbs op x → ShowsNumbers op x y
numbers_shown op x y row pair ranges = record {
  first = first_word l;
  second = second_word l;
  third = third_word l;
  splits = λ is. splits_at (at ops.U32Split is);
  adds = λ is. adds_at (at ops.U32Add is);
  adds_three = λ is. adds_three_at (at ops.U32Add3 is);
  multiplies = λ is. multiplies_at (at ops.U32Mul is);
  multiplies_and_adds = λ is. multiplies_and_adds_at (at ops.U32MAdd is);
  divides = λ is. divides_at (at ops.U32Div is);
}
  where
    l : HasLimbs op x y
    l = record { row = row; pair = pair; ranges = ranges }

    at : (other : Op) → is_op op other ≡ true → HasLimbs other x y
    at other is = at_op (λ o. HasLimbs o x y) op other is l
