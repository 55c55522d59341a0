-- Which tallies have space for what a row counts.
use Rattle.std.specs.Prelude.{ℕ, ◌+◌, ◌^◌, ◌<◌, List}
use Rattle.bus_kit.specs.Adding.{Tallied}

-- each count may grow by 2^65
abbrev pub HasSpace : Tallied → Type 0
HasSpace t = (u : List ℕ) → ((t u).0 + 2 ^ 65 < 2 ^ 128) × ((t u).1 + 2 ^ 65 < 2 ^ 128)
