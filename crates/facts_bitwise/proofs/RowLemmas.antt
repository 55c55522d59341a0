-- Rows of bits: what the four bits of each number come to, and a row that is known by its bits.
use Rattle.std.proofs.Common.{Bool, List, [], ap, ap₂, arith, length, lit<, refl, slice_index, sym, ℕ, ◌*◌, ◌+◌, ◌<◌, ◌∙◌, ◌∷◌, ◌≡◌}
use Rattle.vm_ops.specs.Values.{bit_of}
use Rattle.vm_field.specs.Signs.{◌⊞◌, ◌⊠◌}
use Rattle.chip_columns.specs.BitwiseColumns.{op, a, b, a0, a1, a2, a3, b0, b1, b2, b3, z}
use Rattle.air_kit.specs.BitwiseValues.{bit_result, nibble_a, nibble_b, nibble_z}
use Rattle.facts_bitwise.specs.BitRows.{bitwise, bit_row}
use Rattle.facts_bitwise.proofs.Nibbles.{AreBits, SplitsAs, nibble, nibble-is, splits_as, bit_result-is, bitwise-bits, bitwise-splits}

-- the four bits of the first number, of the second one, and of their result
abbrev pub a_bits : List ℕ → ℕ → ℕ
a_bits row j = slice_index row (3 + j)

abbrev pub b_bits : List ℕ → ℕ → ℕ
b_bits row j = slice_index row (7 + j)

abbrev pub z_bits : Bool → List ℕ → ℕ → ℕ
z_bits xor row j = bitwise xor (a_bits row j) (b_bits row j)

-- the kind and the eight bits of a row are bits
pub record HasRowBits (row : List ℕ) : Type 0 where
  pub kind : op row < 2
  pub first : AreBits (a_bits row)
  pub second : AreBits (b_bits row)

pub nibble_a-is : (row : List ℕ) → HasRowBits row → nibble_a row ≡ nibble (a_bits row)
unfolding nibble_a
nibble_a-is row bits = nibble-is (a_bits row) bits.first

pub nibble_b-is : (row : List ℕ) → HasRowBits row → nibble_b row ≡ nibble (b_bits row)
unfolding nibble_b
nibble_b-is row bits = nibble-is (b_bits row) bits.second

pub result_bits : (xor : Bool) (row : List ℕ) → HasRowBits row → AreBits (z_bits xor row)
result_bits xor row bits = bitwise-bits xor (a_bits row) (b_bits row) bits.first bits.second

sum_same : (p q : ℕ → ℕ) → ((j : ℕ) → j < 4 → p j ≡ q j) → p 0 ⊞ 2 ⊠ p 1 ⊞ 4 ⊠ p 2 ⊞ 8 ⊠ p 3 ≡ q 0 ⊞ 2 ⊠ q 1 ⊞ 4 ⊠ q 2 ⊞ 8 ⊠ q 3
sum_same p q same = rw (same 0 (lit< tt), same 1 (lit< tt), same 2 (lit< tt), same 3 (lit< tt)) refl

pub nibble_z-is : (xor : Bool) (row : List ℕ) → HasRowBits row → op row ≡ bit_of xor → nibble_z row ≡ nibble (z_bits xor row)
unfolding nibble_z
nibble_z-is xor row bits is =
    sum_same (λ j. bit_result (op row) (a_bits row j) (b_bits row j)) (z_bits xor row)
    (λ j h. ap (λ kind. bit_result kind (a_bits row j) (b_bits row j)) is
    ∙ bit_result-is xor (a_bits row j) (b_bits row j) (bits.first j h) (bits.second j h))
    ∙ nibble-is (z_bits xor row) (result_bits xor row bits)

-- ---- a row by its bits

row_is : (r : List ℕ) → length r ≡ 12
    → r ≡ op r ∷ a r ∷ b r ∷ a0 r ∷ a1 r ∷ a2 r ∷ a3 r ∷ b0 r ∷ b1 r ∷ b2 r ∷ b3 r ∷ z r ∷ []
row_is (c ∷ d ∷ e ∷ f ∷ g ∷ h ∷ i ∷ j ∷ k ∷ l ∷ m ∷ n ∷ []) len = refl
row_is _ len = absurd (omega arith)

-- its numbers are sixteen times others and its own bits, and its result is so too
pub record IsBehind (xor : Bool) (u v : ℕ) (row : List ℕ) : Type 0 where
  pub kind_is : op row ≡ bit_of xor
  pub first_is : a row ≡ 16 * u + nibble (a_bits row)
  pub second_is : b row ≡ 16 * v + nibble (b_bits row)
  pub result_is : z row ≡ 16 * bitwise xor u v + nibble (z_bits xor row)

pub row_behind : (xor : Bool) (u v : ℕ) (row : List ℕ) → length row ≡ 12 → HasRowBits row → IsBehind xor u v row
    → row ≡ bit_row xor (a row) (b row)
unfolding bit_row
row_behind xor u v row len bits is =
    let whole = row_is row len in cc (whole, is.kind_is, p.at0, p.at1, p.at2, p.at3, q.at0, q.at1, q.at2, q.at3, result)
  where
    p : SplitsAs (a row) u (a0 row) (a1 row) (a2 row) (a3 row)
    p = splits_as (a row) u (a_bits row) bits.first is.first_is

    q : SplitsAs (b row) v (b0 row) (b1 row) (b2 row) (b3 row)
    q = splits_as (b row) v (b_bits row) bits.second is.second_is

    result : z row ≡ bitwise xor (a row) (b row)
    result =
        is.result_is ∙ sym (bitwise-splits xor (a_bits row) (b_bits row) u v bits.first bits.second)
        ∙ sym (ap₂ (bitwise xor) is.first_is is.second_is)
