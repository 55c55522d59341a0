-- What is kept of inverses.
use Rattle.std.specs.Prelude.{ℕ, List}
use Rattle.fill_main.specs.declared.inverses.Inverses.{Inverses}

-- the elements that are kept, each before its inverse
abbrev pub pairs_of : Inverses → List (ℕ × ℕ)
pairs_of kept = kept.slots.items
