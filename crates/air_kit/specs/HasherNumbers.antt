-- The numbers of the entries of the hasher's table: the value of number n is that of the definition `entry_n`, in its place.
use Rattle.std.specs.Prelude.{◌≡◌, ℕ, ◌+◌, ◌<◌, ◌%◌, List, ◌==◌, length}
use Rattle.vm_field.specs.Permutation.{round_constants}
use Rattle.air_kit.specs.ChipPlaces.{begins_eight, ends_eight, is_inside}
use Rattle.air_kit.specs.Places.{Claim, Spot, at_number}
use Rattle.air_kit.specs.HasherValues.{entry_1, entry_2, entry_3, entry_4, entry_5, entry_6, entry_7, entry_8, entry_9, entry_10, entry_11, entry_12, entry_13, entry_14, entry_18, hasher_values}

-- the constants of the round behind a row
abbrev pub round_of : Claim → Spot → List ℕ
round_of c p = round_constants c.constants (p.row % 8)

-- the value of a number, in a row of the table
abbrev pub hasher_value : Claim → Spot → ℕ → ℕ
hasher_value c p number = at_number (hasher_values c p) number

pub record HasHasherNumbers (c : Claim) (p : Spot) : Type 0 where
  pub count : length (hasher_values c p) ≡ 29
  pub number_1 : hasher_value c p 1 ≡ entry_1 p.cur
  pub number_2 : hasher_value c p 2 ≡ entry_2 p.cur
  pub number_3 : hasher_value c p 3 ≡ entry_3 p.cur
  pub number_4 : hasher_value c p 4 ≡ entry_4 p.cur
  pub number_5 : hasher_value c p 5 ≡ entry_5 (p.row == 0) p.cur
  pub number_6 : hasher_value c p 6 ≡ entry_6 p.cur p.next
  pub number_7 : hasher_value c p 7 ≡ entry_7 (is_inside p) p.cur
  pub number_8 : hasher_value c p 8 ≡ entry_8 (is_inside p) p.cur p.next
  pub number_9 : hasher_value c p 9 ≡ entry_9 (is_inside p) p.cur p.next
  pub number_10 : hasher_value c p 10 ≡ entry_10 (ends_eight p) p.cur p.next
  pub number_11 : hasher_value c p 11 ≡ entry_11 (begins_eight p) p.cur
  pub number_12 : hasher_value c p 12 ≡ entry_12 (begins_eight p) p.cur
  pub number_13 : hasher_value c p 13 ≡ entry_13 (begins_eight p) p.cur
  pub number_14 : (j : ℕ) → j < 4 → hasher_value c p (14 + j) ≡ entry_14 j (ends_eight p) p.cur p.next
  pub number_18 : (j : ℕ) → j < 12 → hasher_value c p (18 + j) ≡ entry_18 j (is_inside p) (round_of c p) p.cur p.next
