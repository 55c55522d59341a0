-- The numbers of the entries of the bitwise table: the value of number n is that of the definition `entry_n`, in its place.
use Rattle.std.specs.Prelude.{◌≡◌, ℕ, length}
use Rattle.air_kit.specs.ChipPlaces.{begins_eight, is_inside}
use Rattle.air_kit.specs.Places.{Spot, at_number}
use Rattle.air_kit.specs.BitwiseValues.{entry_1, entry_2, entry_3, entry_4, entry_5, entry_6, entry_7, entry_8, entry_9, entry_10, entry_11, entry_12, entry_13, entry_14, entry_15, entry_16, bitwise_values}

-- the value of a number, in a row of the table
abbrev pub bitwise_value : Spot → ℕ → ℕ
bitwise_value p number = at_number (bitwise_values p) number

pub record HasBitwiseNumbers (p : Spot) : Type 0 where
  pub count : length (bitwise_values p) ≡ 16
  pub number_1 : bitwise_value p 1 ≡ entry_1 p.cur
  pub number_2 : bitwise_value p 2 ≡ entry_2 p.cur
  pub number_3 : bitwise_value p 3 ≡ entry_3 p.cur
  pub number_4 : bitwise_value p 4 ≡ entry_4 p.cur
  pub number_5 : bitwise_value p 5 ≡ entry_5 p.cur
  pub number_6 : bitwise_value p 6 ≡ entry_6 p.cur
  pub number_7 : bitwise_value p 7 ≡ entry_7 p.cur
  pub number_8 : bitwise_value p 8 ≡ entry_8 p.cur
  pub number_9 : bitwise_value p 9 ≡ entry_9 p.cur
  pub number_10 : bitwise_value p 10 ≡ entry_10 (begins_eight p) p.cur
  pub number_11 : bitwise_value p 11 ≡ entry_11 (begins_eight p) p.cur
  pub number_12 : bitwise_value p 12 ≡ entry_12 (begins_eight p) p.cur
  pub number_13 : bitwise_value p 13 ≡ entry_13 (is_inside p) p.cur p.next
  pub number_14 : bitwise_value p 14 ≡ entry_14 (is_inside p) p.cur p.next
  pub number_15 : bitwise_value p 15 ≡ entry_15 (is_inside p) p.cur p.next
  pub number_16 : bitwise_value p 16 ≡ entry_16 (is_inside p) p.cur p.next
