-- Four bits of a number, and what an operation makes of a number's bits.
use Rattle.std.proofs.Common.{Bool, ap, ap₂, arith, false, lit<, refl, suc, sym, true, zero, ℕ, ◌%◌, ◌*◌, ◌+◌, ◌/◌, ◌<◌, ◌^◌, ◌∙◌, ◌≡◌}
use Rattle.std.proofs.lemmas.Nat.{and_le_l, and_block, xor_block, xor_lt}
use Rattle.vm_ops.specs.Values.{bit_of}
use Rattle.vm_field.specs.Signs.{◌⊞◌, ◌⊠◌}
use Rattle.air_kit.specs.BitwiseValues.{bit_result}
use Rattle.facts_bitwise.specs.BitRows.{bitwise}

-- what holds at each of four places
pub four_cases : (P : ℕ → Type 0) → P 0 → P 1 → P 2 → P 3 → (j : ℕ) → j < 4 → P j
four_cases P p0 p1 p2 p3 zero h = p0
four_cases P p0 p1 p2 p3 (suc zero) h = p1
four_cases P p0 p1 p2 p3 (suc (suc zero)) h = p2
four_cases P p0 p1 p2 p3 (suc (suc (suc zero))) h = p3
four_cases P p0 p1 p2 p3 (suc (suc (suc (suc j)))) h = absurd (omega arith)

-- four numbers are bits
abbrev pub AreBits : (ℕ → ℕ) → Type 0
AreBits p = (j : ℕ) → j < 4 → p j < 2

-- four bits as a number, the lowest first
abbrev pub nibble : (ℕ → ℕ) → ℕ
nibble p = p 0 + 2 * p 1 + 4 * p 2 + 8 * p 3

pub nibble-below : (p : ℕ → ℕ) → AreBits p → nibble p < 16
nibble-below p bits = omega (arith, bits 0 (lit< tt), bits 1 (lit< tt), bits 2 (lit< tt), bits 3 (lit< tt))

pub nibble-is : (p : ℕ → ℕ) → AreBits p → p 0 ⊞ 2 ⊠ p 1 ⊞ 4 ⊠ p 2 ⊞ 8 ⊠ p 3 ≡ nibble p
nibble-is p bits = omega (arith, bits 0 (lit< tt), bits 1 (lit< tt), bits 2 (lit< tt), bits 3 (lit< tt))

-- a number by its four lowest bits and the others
pub number_splits : (n : ℕ) → n ≡ 16 * (n / 16) + (n % 2 + 2 * (n / 2 % 2) + 4 * (n / 4 % 2) + 8 * (n / 8 % 2))
number_splits n = omega arith

-- the bits of a number that is so split
pub record SplitsAs (n h p0 p1 p2 p3 : ℕ) : Type 0 where
  pub at0 : p0 ≡ n % 2
  pub at1 : p1 ≡ n / 2 % 2
  pub at2 : p2 ≡ n / 4 % 2
  pub at3 : p3 ≡ n / 8 % 2
  pub above : h ≡ n / 16

splits_by : (n h p0 p1 p2 p3 : ℕ) → p0 < 2 → p1 < 2 → p2 < 2 → p3 < 2 → n ≡ 16 * h + (p0 + 2 * p1 + 4 * p2 + 8 * p3) → SplitsAs n h p0 p1 p2 p3
splits_by n h p0 p1 p2 p3 h0 h1 h2 h3 is =
    record { at0 = omega arith; at1 = omega arith; at2 = omega arith; at3 = omega arith; above = omega arith }

pub splits_as : (n h : ℕ) (p : ℕ → ℕ) → AreBits p → n ≡ 16 * h + nibble p → SplitsAs n h (p 0) (p 1) (p 2) (p 3)
splits_as n h p bits is =
    splits_by n h (p 0) (p 1) (p 2) (p 3) (bits 0 (lit< tt)) (bits 1 (lit< tt)) (bits 2 (lit< tt)) (bits 3 (lit< tt)) is

-- ---- the result of two bits

pub bit_result-is : (xor : Bool) (p q : ℕ) → p < 2 → q < 2 → bit_result (bit_of xor) p q ≡ bitwise xor p q
unfolding bit_result
bit_result-is true zero zero hp hq = refl
bit_result-is true zero (suc zero) hp hq = refl
bit_result-is true (suc zero) zero hp hq = refl
bit_result-is true (suc zero) (suc zero) hp hq = refl
bit_result-is false zero zero hp hq = refl
bit_result-is false zero (suc zero) hp hq = refl
bit_result-is false (suc zero) zero hp hq = refl
bit_result-is false (suc zero) (suc zero) hp hq = refl
bit_result-is xor (suc (suc p)) q hp hq = absurd (omega arith)
bit_result-is xor p (suc (suc q)) hp hq = absurd (omega arith)

-- ---- the result of numbers

pub bitwise-below : (xor : Bool) (k u v : ℕ) → u < 2 ^ k → v < 2 ^ k → bitwise xor u v < 2 ^ k
bitwise-below true k u v hu hv = xor_lt k u v hu hv
bitwise-below false k u v hu hv = omega (arith, and_le_l u v)

pub bitwise-none : (xor : Bool) → bitwise xor 0 0 ≡ 0
bitwise-none true = refl
bitwise-none false = refl

-- one more bit of each
one_more : (xor : Bool) (u v p q : ℕ) → p < 2 → q < 2 → bitwise xor (u * 2 + p) (v * 2 + q) ≡ bitwise xor u v * 2 + bitwise xor p q
one_more true u v p q hp hq = xor_block 1 u v p q hp hq
one_more false u v p q hp hq = and_block 1 u v p q hp hq

-- a number and n more bits, the highest first
abbrev joined : (ℕ → ℕ) → ℕ → ℕ → ℕ
joined p zero h = h
joined p (suc n) h = joined p n (h * 2 + p n)

joined-is : (p : ℕ → ℕ) (h : ℕ) → joined p 4 h ≡ 16 * h + nibble p
joined-is p h = omega arith

module _ (xor : Bool) (p q : ℕ → ℕ) where
  bits_more : (n u v : ℕ) → ((j : ℕ) → j < n → p j < 2) → ((j : ℕ) → j < n → q j < 2)
      → bitwise xor (joined p n u) (joined q n v) ≡ joined (λ j. bitwise xor (p j) (q j)) n (bitwise xor u v)
  bits_more zero u v hp hq = refl
  bits_more (suc n) u v hp hq =
      bits_more n (u * 2 + p n) (v * 2 + q n) (λ j h. hp j (omega (arith, h))) (λ j h. hq j (omega (arith, h)))
      ∙ ap (joined (λ j. bitwise xor (p j) (q j)) n) (one_more xor u v (p n) (q n) (hp n (omega arith)) (hq n (omega arith)))

  pub bitwise-bits : AreBits p → AreBits q → AreBits (λ j. bitwise xor (p j) (q j))
  bitwise-bits hp hq j h = bitwise-below xor 1 (p j) (q j) (hp j h) (hq j h)

  pub bitwise-splits : (u v : ℕ) → AreBits p → AreBits q
      → bitwise xor (16 * u + nibble p) (16 * v + nibble q) ≡ 16 * bitwise xor u v + nibble (λ j. bitwise xor (p j) (q j))
  bitwise-splits u v hp hq =
      ap₂ (bitwise xor) (sym (joined-is p u)) (sym (joined-is q v)) ∙ bits_more 4 u v hp hq
      ∙ joined-is (λ j. bitwise xor (p j) (q j)) (bitwise xor u v)
