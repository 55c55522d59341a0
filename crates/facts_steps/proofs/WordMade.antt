-- What a step leaves of numbers of 32 bits, and how great it is.
use Rattle.facts_steps.proofs.Words
use Words.{◌≡◌, ℕ, ◌+◌, ◌-◌, ◌*◌, ◌^◌, ◌<◌, true, false, List, slice_index, refl, arith, lit<, prime, felt_sub, felt_inv, reads_elsewhere, leaves_of}
use Words.{left_cells, computed, Op, s, t, w, count_of_limbs, cells, seen_of, left_value, has_high_word, limbs_filled}
use Words.ops
use Rattle.facts_steps.proofs.Numbers.{TwoWords, Borrows}
use Rattle.facts_steps.proofs.Traps.{Runs}
use Rattle.facts_steps.proofs.Products.{product_below, product_sum_below, Divided, divided_low, remainder_less}

-- what is known of the rows
pub record Made (op : Op) (x y : List ℕ) : Type 0 where
  pub runs : Runs op x
  pub low : s x 0 < prime
  pub tops : reads_elsewhere op ≡ false → (j : ℕ) → j < leaves_of op → s y j ≡ left_value op j x
  pub limb : (j : ℕ) → j < count_of_limbs op → t x j ≡ slice_index (limbs_filled op x y) j
  pub not_highest : has_high_word op ≡ true → w x 0 ≡ felt_inv (felt_sub (2 ^ 32 - 1) (s y 0))

-- what the operation leaves, as numbers
abbrev pub Left : Op → List ℕ → List ℕ → Type 0
Left ops.U32Split x y = TwoWords (s x 0) (s y 1) (s y 0)
Left ops.U32Add x y = TwoWords (s x 1 + s x 0) (s y 1) (s y 0)
Left ops.U32Add3 x y = TwoWords (s x 2 + s x 1 + s x 0) (s y 1) (s y 0)
Left ops.U32Mul x y = TwoWords (s x 1 * s x 0) (s y 1) (s y 0)
Left ops.U32MAdd x y = TwoWords (s x 1 * s x 0 + s x 2) (s y 1) (s y 0)
Left ops.U32Sub x y = Borrows (s x 1) (s x 0) (s y 0) (s y 1)
Left ops.U32Div x y = Divided (s x 1) (s x 0) (s y 0) (s y 1)
Left op x y = Unit {0}

pub left_by : (op : Op) {x y : List ℕ} → Made op x y → Left op x y
unfolding left_value left_cells computed seen_of cells
left_by ops.U32Split m = record { low = m.tops refl 1 (lit< tt); high = m.tops refl 0 (lit< tt) }
left_by ops.U32Add m = record { low = m.tops refl 1 (lit< tt); high = m.tops refl 0 (lit< tt) }
left_by ops.U32Add3 m = record { low = m.tops refl 1 (lit< tt); high = m.tops refl 0 (lit< tt) }
left_by ops.U32Mul m = record { low = m.tops refl 1 (lit< tt); high = m.tops refl 0 (lit< tt) }
left_by ops.U32MAdd m = record { low = m.tops refl 1 (lit< tt); high = m.tops refl 0 (lit< tt) }
left_by ops.U32Sub m = record { borrow_is = m.tops refl 0 (lit< tt); rest_is = m.tops refl 1 (lit< tt) }
left_by ops.U32Div m = record { remainder = m.tops refl 0 (lit< tt); quotient = m.tops refl 1 (lit< tt) }
left_by op m = tt

-- ---- how great it is

pub rest_below : {a b borrow rest : ℕ} → Borrows a b borrow rest → rest < 2 ^ 32
rest_below k = omega arith

pub distance_below : {a : ℕ} (b : ℕ) → a < 2 ^ 32 → a - b - 1 < 2 ^ 32
distance_below b h = omega arith

module _ {x y : List ℕ} where
  pub mul_below : Made ops.U32Mul x y → s x 1 * s x 0 < prime
  mul_below m = product_below (m.runs.first refl) (m.runs.second refl)

  pub mul_add_below : Made ops.U32MAdd x y → s x 1 * s x 0 + s x 2 < prime
  mul_add_below m = product_sum_below (m.runs.first refl) (m.runs.second refl) (m.runs.third refl)

  pub quotient_below : Made ops.U32Div x y → s y 1 < 2 ^ 32
  quotient_below m = divided_low (m.runs.second refl) (m.runs.divisor refl) (left_by ops.U32Div m)

  pub below_divisor : Made ops.U32Div x y → s y 0 < s x 0
  below_divisor m = remainder_less (m.runs.divisor refl) (left_by ops.U32Div m)

  pub remainder_below : Made ops.U32Div x y → s y 0 < 2 ^ 32
  remainder_below m = let less = below_divisor m in let low = m.runs.first refl in omega (arith, less, low)
