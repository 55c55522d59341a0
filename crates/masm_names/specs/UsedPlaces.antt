-- The places of the source's own procedures whose lists are used, one for each use.
use Rattle.std.specs.Prelude.{ℕ, Bool, true, false, List, Option, None, count_by, nat_eq, filter_map}
use Rattle.masm_names.specs.Uses.{Owner, Own, Kernel, Use}

-- the place of the list that a use takes, by the places of the source's own names; a procref takes none
abbrev pub place_used : (List ℕ → Option ℕ) → Owner → Bool → List ℕ → Option ℕ
place_used own Own false name = own name
place_used own Own true name = None
place_used own Kernel refers name = None

abbrev pub places_used : (List ℕ → Option ℕ) → List Use → List ℕ
places_used own uses = filter_map (λ u. place_used own u.kind u.refers u.name) uses

-- how often a place stands among these
abbrev pub times_among : List ℕ → ℕ → ℕ
times_among places place = count_by (nat_eq place) places
