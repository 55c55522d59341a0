-- The places of digests in a list, of each its first one.
use Rattle.std.specs.Prelude.{ℕ, ◌+◌, nat_eq, if◌then◌else◌, List, [], ◌∷◌, Option, Some, None}
use lib.Pointwise.{pointwise}
use Rattle.std.specs.Option.{option_map}
use Rattle.indexmap.specs.IndexMap.{get_by}
use Rattle.tree_hash.specs.declared.places.Places.{Places}

-- the first place at which a digest stands
abbrev pub first_place : List (List ℕ) → List ℕ → Option ℕ
first_place [] digest = None
first_place (d ∷ digests) digest = if pointwise nat_eq d digest then Some 0 else option_map (λ i. i + 1) (first_place digests digest)

-- the place of a digest, as a map keeps it
abbrev pub place_at : Places → List ℕ → Option ℕ
place_at places digest = get_by (pointwise nat_eq digest) places.first
