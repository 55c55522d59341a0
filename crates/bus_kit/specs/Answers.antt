-- What a search for a tuple whose counts are apart answers.
use Rattle.std.specs.Prelude.{ℕ, List, Option, Some, None}
use Rattle.buses.specs.Counts.{AreAlike, IsLeastApart}
use Rattle.bus_kit.specs.declared.tuple.Unequal.{Unequal}

-- none exactly where all counts are alike, and the least tuple apart else
abbrev pub IsAnswer : (List ℕ → ℕ) → (List ℕ → ℕ) → Option Unequal → Type 0
IsAnswer f g None = AreAlike f g
IsAnswer f g (Some x) = IsLeastApart f g x.tuple x.asked x.given
