-- Where an entry of the small tables stands: in each row, in the first, in the last, in each row and the one after it, or in
-- the rows at a place of their eight.
use Rattle.std.specs.Prelude.{ℕ, ◌%◌, Bool, ◌==◌, nat_lt, if◌then◌else◌, List, Option, Some, None}
use Rattle.air_kit.specs.Places.{Spot}

-- the value where the test holds, else 0
abbrev pub only : Bool → ℕ → ℕ
only test value = if test then value else 0

-- the value of a row and the one after it; 0 where there is none
abbrev pub paired : (List ℕ → ℕ) → Option (List ℕ) → ℕ
paired value None = 0
paired value (Some y) = value y

-- the value where there is no row after this one, else 0
abbrev pub in_last : ℕ → Option (List ℕ) → ℕ
in_last value None = value
in_last value (Some y) = 0

-- where a row stands among its eight: it is the first, or another one follows, or it is the last
abbrev pub begins_eight : Spot → Bool
begins_eight p = p.row % 8 == 0

abbrev pub is_inside : Spot → Bool
is_inside p = nat_lt (p.row % 8) 7

abbrev pub ends_eight : Spot → Bool
ends_eight p = p.row % 8 == 7
