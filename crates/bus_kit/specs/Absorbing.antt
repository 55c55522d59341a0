-- How far the counts of a map were added to others.
use Rattle.std.specs.Prelude.{◌≡◌, ℕ, nat_eq, List, map, unwrap_or}
use Rattle.std.specs.List.{IsDistinct}
use Rattle.std.specs.Map.{lookup}
use lib.Pointwise.{pointwise}
use Rattle.bus_kit.specs.Counting.{summed}

-- a map's entry: a tuple and both its counts
abbrev pub Entry : Type 0
Entry = List ℕ × (ℕ × ℕ)

-- both counts of a tuple in a list of entries
abbrev pub look : List Entry → List ℕ → ℕ × ℕ
look es u = unwrap_or (lookup (pointwise nat_eq u) es) (0, 0)

-- With the entries that are left, the counts are those before and the other ones. No tuple stands twice in what is left.
pub record IsAbsorbed (now : List ℕ → ℕ × ℕ) (rest : List Entry) (old other : List ℕ → ℕ × ℕ) : Type 0 where
  pub sums : (u : List ℕ) → summed (now u) (look rest u) ≡ summed (old u) (other u)
  pub apart : IsDistinct (pointwise nat_eq) (map (λ e. e.0) rest)
