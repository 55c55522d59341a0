-- Both counts of tuples, in a map.
use Rattle.std.specs.Prelude.{ℕ, ◌+◌, ◌^◌, ◌<◌, nat_eq, if◌then◌else◌, List, unwrap_or, ◌≡◌, Result, Ok, Err}
use Rattle.std.specs.HashMap.{HashMap, get}
use lib.Pointwise.{pointwise}
use Rattle.buses.specs.Counts.{hits}
use Rattle.bus_kit.specs.declared.count.Side.{Side}
use Rattle.bus_kit.specs.declared.count.Side.TheVariants.{Asked, Given}

-- the count of one side
abbrev pub on_side : Side → ℕ × ℕ → ℕ
on_side Asked both = both.0
on_side Given both = both.1

-- both counts, with more on one side
abbrev pub more_on : Side → ℕ → ℕ × ℕ → ℕ × ℕ
more_on Asked n both = (both.0 + n, both.1)
more_on Given n both = (both.0, both.1 + n)

-- how often a tuple was asked and given: never where it has no entry
abbrev pub both_in : {S : Type 0} → HashMap (List ℕ) (ℕ × ℕ) S → List ℕ → ℕ × ℕ
both_in m u = unwrap_or (get (pointwise nat_eq) m u) (0, 0)

-- A tuple was counted on one side, and all else stayed. Where memory was refused it had no count, and all stayed.
abbrev pub IsAdded : {E : Type 0} → Side → List ℕ → ℕ → (List ℕ → ℕ × ℕ) → (List ℕ → ℕ × ℕ) → Result (Unit {0}) E → Type 0
IsAdded side tuple count old new (Ok _) = (u : List ℕ) → new u ≡ more_on side (hits tuple count u) (old u)
IsAdded side tuple count old new (Err _) = (old tuple ≡ (0, 0)) × ((u : List ℕ) → new u ≡ old u)

-- two pairs of counts, added
abbrev pub summed : ℕ × ℕ → ℕ × ℕ → ℕ × ℕ
summed a b = (a.0 + b.0, a.1 + b.1)

-- there is room for the sum
abbrev pub FitTogether : ℕ × ℕ → ℕ × ℕ → Type 0
FitTogether a b = (a.0 + b.0 < 2 ^ 128) × (a.1 + b.1 < 2 ^ 128)

-- one tuple's counts, and none of another
abbrev pub both_hits : List ℕ → ℕ × ℕ → List ℕ → ℕ × ℕ
both_hits tuple both u = if pointwise nat_eq tuple u then both else (0, 0)
