-- The values of rows of operations, which are 0.
use Rattle.std.proofs.Common.{Bool, List, Option, Some, ap, ap₂, arith, false, refl, sym, true, ℕ, ◌%◌, ◌*◌, ◌+◌, ◌/◌, ◌<◌, ◌^◌, ◌∙◌, ◌∷◌, ◌≡◌}
use Rattle.vm_ops.specs.Values.{bit_of}
use Rattle.vm_field.specs.Field.{prime}
use Rattle.vm_field.specs.Signs.{◌⊟◌, ◌⊠◌}
use Rattle.vm_field.proofs.Algebra.{felt_sub-same}
use Rattle.air_kit.proofs.ZeroLemmas.{bit_zero}
use Rattle.air_kit.specs.BitwiseValues.{bitwise_values_by, nibble_a, nibble_b, nibble_z}
use Rattle.air_kit.specs.HasherValues.{bit_value}
use Rattle.facts_hasher.proofs.BlockLemmas.{AllZero, Each, each_at, no_values, value_then}
use Rattle.facts_hasher.proofs.RowsAreZero.{bit_below, only_zero, same_bits}
use Rattle.facts_bitwise.specs.BitRows.{bitwise, bit_row}
use Rattle.facts_bitwise.proofs.Nibbles.{number_splits, bitwise-below, bitwise-none, bitwise-splits, four_cases}
use Rattle.facts_bitwise.proofs.RowLemmas.{HasRowBits, a_bits, b_bits, nibble_a-is, nibble_b-is, nibble_z-is}

row_bits : (xor : Bool) (u v : ℕ) → HasRowBits (bit_row xor u v)
unfolding bit_row
row_bits xor u v = record {
  kind = bit_below xor;
  first = four_cases _ (omega arith) (omega arith) (omega arith) (omega arith);
  second = four_cases _ (omega arith) (omega arith) (omega arith) (omega arith);
}

-- ---- a number less sixteen times its higher bits, and less its own four

module _ (xor : Bool) (u v : ℕ) where
  first_splits : u ≡ 16 * (u / 16) + nibble_a (bit_row xor u v)
  unfolding bit_row
  first_splits = number_splits u ∙ ap (λ n. 16 * (u / 16) + n) (sym (nibble_a-is (bit_row xor u v) (row_bits xor u v)))

  second_splits : v ≡ 16 * (v / 16) + nibble_b (bit_row xor u v)
  unfolding bit_row
  second_splits = number_splits v ∙ ap (λ n. 16 * (v / 16) + n) (sym (nibble_b-is (bit_row xor u v) (row_bits xor u v)))

  result_splits : bitwise xor u v ≡ 16 * bitwise xor (u / 16) (v / 16) + nibble_z (bit_row xor u v)
  unfolding bit_row
  result_splits =
      ap₂ (bitwise xor) (number_splits u) (number_splits v)
      ∙ bitwise-splits xor (a_bits (bit_row xor u v)) (b_bits (bit_row xor u v)) (u / 16) (v / 16) (row_bits xor u v).first (row_bits xor u v).second
      ∙ ap (λ n. 16 * bitwise xor (u / 16) (v / 16) + n) (sym (nibble_z-is xor (bit_row xor u v) (row_bits xor u v) refl))

  -- the kind and the eight bits
  bits_zero : {values : List ℕ} → Each (λ v. v ≡ 0) values
      → Each (λ v. v ≡ 0) (bit_value (bit_of xor) ∷ bit_value (u % 2) ∷ bit_value (u / 2 % 2) ∷ bit_value (u / 4 % 2) ∷ bit_value (u / 8 % 2)
      ∷ bit_value (v % 2) ∷ bit_value (v / 2 % 2) ∷ bit_value (v / 4 % 2) ∷ bit_value (v / 8 % 2) ∷ values)
  bits_zero later =
      value_then (bit_zero (bit_of xor) (bit_below xor)) (value_then (bit_zero (u % 2) (omega arith)) (value_then (bit_zero (u / 2 % 2) (omega arith))
      (value_then (bit_zero (u / 4 % 2) (omega arith)) (value_then (bit_zero (u / 8 % 2) (omega arith)) (value_then (bit_zero (v % 2) (omega arith))
      (value_then (bit_zero (v / 2 % 2) (omega arith)) (value_then (bit_zero (v / 4 % 2) (omega arith)) (value_then (bit_zero (v / 8 % 2) (omega arith))
      later))))))))

step_zero : (y x n : ℕ) → y < prime → y ≡ 16 * x + n → y ⊟ 16 ⊠ x ⊟ n ≡ 0
step_zero y x n below is = omega arith

own_zero : (y x n : ℕ) → y < prime → x ≡ 0 → y ≡ 16 * x + n → y ⊟ n ≡ 0
own_zero y x n below none is = felt_sub-same y n below (omega arith)

-- ---- rows

result_below : (xor : Bool) (m n : ℕ) → m < 2 ^ 32 → n < 2 ^ 32 → bitwise xor m n < prime
result_below xor m n hm hn = let h = bitwise-below xor 32 m n hm hn in omega (arith, h)

-- a row that is not the last of its eight, where the numbers of the next one are these
pub inside_zero : (begins : Bool) (xor : Bool) (s t u v : ℕ) → s < 2 ^ 32 → t < 2 ^ 32 → u ≡ s / 16 → v ≡ t / 16
    → (begins ≡ true → (u < 16) × (v < 16)) → AllZero (bitwise_values_by begins true (bit_row xor u v) (Some (bit_row xor s t)))
unfolding bitwise_values_by bit_row
inside_zero begins xor s t u v hs ht us vt small =
    each_at (λ v. v ≡ 0) (bitwise_values_by begins true (bit_row xor u v) (Some (bit_row xor s t))) refl (bits_zero xor u v
    (value_then (only_zero begins _ (λ is. own_zero u (u / 16) (nibble_a row) (omega arith) (none is).0 (first_splits xor u v)))
    (value_then (only_zero begins _ (λ is. own_zero v (v / 16) (nibble_b row) (omega arith) (none is).1 (second_splits xor u v)))
    (value_then (only_zero begins _ (λ is.
    own_zero (bitwise xor u v) (bitwise xor (u / 16) (v / 16)) (nibble_z row) (result_below xor u v (omega arith) (omega arith))
    (ap₂ (bitwise xor) (none is).0 (none is).1 ∙ bitwise-none xor) (result_splits xor u v)))
    (value_then (same_bits xor)
    (value_then (step_zero s u (nibble_a next) (omega arith) (first_splits xor s t ∙ ap (λ n. 16 * n + nibble_a next) (sym us)))
    (value_then (step_zero t v (nibble_b next) (omega arith) (second_splits xor s t ∙ ap (λ n. 16 * n + nibble_b next) (sym vt)))
    (value_then (step_zero (bitwise xor s t) (bitwise xor u v) (nibble_z next) (result_below xor s t hs ht)
    (result_splits xor s t ∙ ap (λ n. 16 * n + nibble_z next) (ap₂ (bitwise xor) (sym us) (sym vt)))) no_values))))))))
  where
    row : List ℕ
    row = bit_row xor u v

    next : List ℕ
    next = bit_row xor s t

    none : begins ≡ true → (u / 16 ≡ 0) × (v / 16 ≡ 0)
    none is = let h = small is in let l = h.0 in let r = h.1 in (omega (arith, l), omega (arith, r))

-- the last of the eight
pub last_zero : (xor : Bool) (u v : ℕ) (next : Option (List ℕ)) → AllZero (bitwise_values_by false false (bit_row xor u v) next)
unfolding bitwise_values_by bit_row
last_zero xor u v next =
    each_at (λ v. v ≡ 0) (bitwise_values_by false false (bit_row xor u v) next) refl
    (bits_zero xor u v
    (value_then refl (value_then refl (value_then refl (value_then refl (value_then refl (value_then refl (value_then refl no_values))))))))
