-- Values that are 0 at a row of the bitwise table: the row is that of its numbers, which go on from those of the row before.
use Rattle.std.proofs.Common.{Bool, List, Option, Some, ap, arith, length, lit<, pow-add, refl, sym, true, ℕ, ◌*◌, ◌+◌, ◌/◌, ◌<◌, ◌==◌, ◌^◌, ◌∙◌, ◌≡◌, ◌≤◌}
use Rattle.vm_ops.specs.Values.{bit_of}
use Rattle.vm_field.specs.Field.{prime}
use Rattle.vm_field.specs.Signs.{◌⊟◌, ◌⊠◌}
use Rattle.vm_field.proofs.Algebra.{same_from_sub, bit_from_product}
use Rattle.chip_columns.specs.BitwiseColumns.{op, a, b, a0, a1, a2, a3, b0, b1, b2, b3, z}
use Rattle.air_kit.specs.BitwiseValues.{bitwise_values_by, nibble_a, nibble_b, nibble_z}
use Rattle.facts_hasher.proofs.BlockLemmas.{AllZero}
use Rattle.facts_hasher.proofs.RowLemmas.{CellsBelow, bit_is}
use Rattle.facts_bitwise.specs.BitRows.{bitwise, bit_row}
use Rattle.facts_bitwise.proofs.Nibbles.{AreBits, bitwise-below, bitwise-none, four_cases, nibble, nibble-below, splits_as}
use Rattle.facts_bitwise.proofs.RowLemmas.{HasRowBits, IsBehind, a_bits, b_bits, nibble_a-is, nibble_b-is, nibble_z-is, result_bits, row_behind, z_bits}

pub has_bits : (begins inside : Bool) (row : List ℕ) (next : Option (List ℕ)) → CellsBelow row
    → AllZero (bitwise_values_by begins inside row next) → HasRowBits row
unfolding bitwise_values_by
has_bits begins inside row next below zero_is = record {
  kind = bit_from_product (op row) (below 0) (zero_is 0);
  first = four_cases _ (bit_from_product (a0 row) (below 3) (zero_is 1)) (bit_from_product (a1 row) (below 4) (zero_is 2))
      (bit_from_product (a2 row) (below 5) (zero_is 3)) (bit_from_product (a3 row) (below 6) (zero_is 4));
  second = four_cases _ (bit_from_product (b0 row) (below 7) (zero_is 5)) (bit_from_product (b1 row) (below 8) (zero_is 6))
      (bit_from_product (b2 row) (below 9) (zero_is 7)) (bit_from_product (b3 row) (below 10) (zero_is 8));
}

-- ---- a row of numbers of so many bits

pub record ShowsBits (k : ℕ) (row : List ℕ) : Type 0 where
  pub kind : op row < 2
  pub first : a row < 2 ^ k
  pub second : b row < 2 ^ k
  pub row_is : row ≡ bit_row (op row == 1) (a row) (b row)

shows_result : (k : ℕ) (row : List ℕ) → ShowsBits k row → z row ≡ bitwise (op row == 1) (a row) (b row)
unfolding bit_row
shows_result k row s = ap z s.row_is

wider : (k y x q : ℕ) → x < 2 ^ k → q < 16 → y ≡ 16 * x + q → y < 2 ^ (k + 4)
wider k y x q room small is = let e = pow-add 2 k 4 in omega (arith, e)

shows_behind : (k u v : ℕ) (row : List ℕ) → u < 2 ^ k → v < 2 ^ k → length row ≡ 12 → HasRowBits row → IsBehind (op row == 1) u v row
    → ShowsBits (k + 4) row
shows_behind k u v row hu hv len bits is = record {
  kind = bits.kind;
  first = wider k (a row) u (nibble (a_bits row)) hu (nibble-below (a_bits row) bits.first) is.first_is;
  second = wider k (b row) v (nibble (b_bits row)) hv (nibble-below (b_bits row) bits.second) is.second_is;
  row_is = row_behind (op row == 1) u v row len bits is;
}

-- a number that is its own four bits, and one that is sixteen times another and its own four bits
own_number : (n x p : ℕ) (q : ℕ → ℕ) → x ≡ 0 → n < prime → p ≡ nibble q → AreBits q → n ⊟ p ≡ 0 → n ≡ 16 * x + nibble q
own_number n x p q none below is bits zero_is =
    let e = same_from_sub n p below (let small = nibble-below q bits in omega (arith, is, small)) zero_is in omega (arith, e, is, none)

next_by : (y x p q : ℕ) → x < 2 ^ 28 → y < prime → p ≡ q → q < 16 → y ⊟ 16 ⊠ x ⊟ p ≡ 0 → y ≡ 16 * x + q
next_by y x p q room below is small zero_is = omega arith

next_number : (y x p : ℕ) (q : ℕ → ℕ) → x < 2 ^ 28 → y < prime → p ≡ nibble q → AreBits q → y ⊟ 16 ⊠ x ⊟ p ≡ 0 → y ≡ 16 * x + nibble q
next_number y x p q room below is bits zero_is = next_by y x p (nibble q) room below is (nibble-below q bits) zero_is

-- the first of the eight
pub first_shows : (inside : Bool) (row : List ℕ) (next : Option (List ℕ)) → length row ≡ 12 → CellsBelow row
    → AllZero (bitwise_values_by true inside row next) → ShowsBits 4 row
unfolding bitwise_values_by
first_shows inside row next len below zero_is =
    let bits = has_bits true inside row next below zero_is in
    let xor : Bool = op row == 1 in
    let kind_is = bit_is (op row) bits.kind in
    shows_behind 0 0 0 row (lit< tt) (lit< tt) len bits (record {
      kind_is = kind_is;
      first_is = own_number (a row) 0 (nibble_a row) (a_bits row) refl (below 1) (nibble_a-is row bits) bits.first (zero_is 9);
      second_is = own_number (b row) 0 (nibble_b row) (b_bits row) refl (below 2) (nibble_b-is row bits) bits.second (zero_is 10);
      result_is = own_number (z row) (bitwise xor 0 0) (nibble_z row) (z_bits xor row) (bitwise-none xor) (below 11)
          (nibble_z-is xor row bits kind_is) (result_bits xor row bits) (zero_is 11);
    })

-- ---- a further row

pub record IsNextRow (k : ℕ) (cur next : List ℕ) : Type 0 where
  pub shows : ShowsBits (k + 4) next
  pub kind_same : op cur ≡ op next
  pub first_is : a cur ≡ a next / 2 ^ 4
  pub second_is : b cur ≡ b next / 2 ^ 4

pub goes_on : (k : ℕ) (begins : Bool) (cur next : List ℕ) → 2 ^ k ≤ 2 ^ 28 → length next ≡ 12 → CellsBelow next → HasRowBits next → ShowsBits k cur
    → AllZero (bitwise_values_by begins true cur (Some next)) → IsNextRow k cur next
unfolding bitwise_values_by
goes_on k begins cur next room len below bits s zero_is = record {
  shows = shows_behind k (a cur) (b cur) next s.first s.second len bits (record {
    kind_is = kind_is;
    first_is = first_is;
    second_is = second_is;
    result_is = next_number (z next) (z cur) (nibble_z next) (z_bits xor next) result_room (below 11) (nibble_z-is xor next bits kind_is)
        (result_bits xor next bits) (zero_is 15)
        ∙ ap (λ n. 16 * n + nibble (z_bits xor next)) (shows_result k cur s ∙ ap (λ o. bitwise (o == 1) (a cur) (b cur)) kind_same);
  });
  kind_same = kind_same;
  first_is = (splits_as (a next) (a cur) (a_bits next) bits.first first_is).above;
  second_is = (splits_as (b next) (b cur) (b_bits next) bits.second second_is).above;
}
  where
    kind_same : op cur ≡ op next
    kind_same = let h = s.kind in let l = bits.kind in sym (same_from_sub (op next) (op cur) (omega (arith, l)) (omega (arith, h)) (zero_is 12))

    xor : Bool
    xor = op next == 1

    kind_is : op next ≡ bit_of xor
    kind_is = bit_is (op next) bits.kind

    within : (n : ℕ) → n < 2 ^ k → n < 2 ^ 28
    within n h = omega (arith, h, room)

    first_is : a next ≡ 16 * a cur + nibble (a_bits next)
    first_is = next_number (a next) (a cur) (nibble_a next) (a_bits next) (within (a cur) s.first) (below 1) (nibble_a-is next bits) bits.first (zero_is 13)

    second_is : b next ≡ 16 * b cur + nibble (b_bits next)
    second_is = next_number (b next) (b cur) (nibble_b next) (b_bits next) (within (b cur) s.second) (below 2) (nibble_b-is next bits) bits.second (zero_is 14)

    result_room : z cur < 2 ^ 28
    result_room =
        let h = bitwise-below (op cur == 1) k (a cur) (b cur) s.first s.second in within (z cur) (let e = shows_result k cur s in omega (arith, h, e))
