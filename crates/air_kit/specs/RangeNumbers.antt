-- The numbers of the entries of the range table: the value of number n is that of the definition `entry_n`, in its place.
use Rattle.std.specs.Prelude.{◌≡◌, ℕ, length}
use Rattle.air_kit.specs.Places.{Spot, at_number}
use Rattle.air_kit.specs.RangeValues.{entry_1, entry_2, entry_3, range_values}

-- the value of a number, in a row of the table
abbrev pub range_value : Spot → ℕ → ℕ
range_value p number = at_number (range_values p) number

pub record HasRangeNumbers (p : Spot) : Type 0 where
  pub count : length (range_values p) ≡ 3
  pub number_1 : range_value p 1 ≡ entry_1 p.row p.cur
  pub number_2 : range_value p 2 ≡ entry_2 p.cur p.next
  pub number_3 : range_value p 3 ≡ entry_3 p.cur p.next
