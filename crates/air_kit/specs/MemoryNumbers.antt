-- The numbers of the entries of the memory's table: the value of number n is that of the definition `entry_n`, in its place.
use Rattle.std.specs.Prelude.{◌≡◌, ℕ, ◌+◌, ◌<◌, ◌==◌, length}
use Rattle.air_kit.specs.Places.{Spot, at_number}
use Rattle.air_kit.specs.MemoryValues.{entry_1, entry_2, entry_3, entry_4, entry_5, entry_6, entry_7, entry_8, entry_9, entry_10, entry_11, entry_14, entry_15, memory_values}

-- the value of a number, in a row of the table
abbrev pub memory_value : Spot → ℕ → ℕ
memory_value p number = at_number (memory_values p) number

pub record HasMemoryNumbers (p : Spot) : Type 0 where
  pub count : length (memory_values p) ≡ 17
  pub number_1 : memory_value p 1 ≡ entry_1 p.cur
  pub number_2 : memory_value p 2 ≡ entry_2 p.cur
  pub number_3 : memory_value p 3 ≡ entry_3 p.cur
  pub number_4 : memory_value p 4 ≡ entry_4 p.cur
  pub number_5 : memory_value p 5 ≡ entry_5 p.cur
  pub number_6 : memory_value p 6 ≡ entry_6 (p.row == 0) p.cur
  pub number_7 : memory_value p 7 ≡ entry_7 p.cur p.next
  pub number_8 : memory_value p 8 ≡ entry_8 p.cur p.next
  pub number_9 : memory_value p 9 ≡ entry_9 p.cur p.next
  pub number_10 : memory_value p 10 ≡ entry_10 (p.row == 0) p.cur
  pub number_11 : (j : ℕ) → j < 3 → memory_value p (11 + j) ≡ entry_11 j (p.row == 0) p.cur
  pub number_14 : memory_value p 14 ≡ entry_14 p.cur p.next
  pub number_15 : (j : ℕ) → j < 3 → memory_value p (15 + j) ≡ entry_15 j p.cur p.next
