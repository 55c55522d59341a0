-- Entries by the cells of their rows.
use Rattle.std.specs.Prelude.{ℕ, List, Option}
use Rattle.air_kit.specs.Flags.{flag}
use Rattle.air_kit.specs.Places.{RowEntry, PairEntry, Spot}

-- an entry of a row
abbrev pub of_row : RowEntry → List ℕ → ℕ
of_row entry x = entry (flag x) x

-- an entry of a row and the one after it
abbrev pub of_pair : PairEntry → List ℕ → List ℕ → ℕ
of_pair entry x y = entry (flag x) (flag y) x y

-- the place of a row of this number
abbrev pub spot_with : ℕ → List ℕ → Option (List ℕ) → Spot
spot_with number x y = record { row = number; cur = x; next = y }
