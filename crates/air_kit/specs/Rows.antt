-- A place of the code, as the definitions see it.
use Rattle.std.specs.Prelude.{ℕ, List, option_map}
use Rattle.rpo_hash.specs.Constants.{constants_of}
use Rattle.air_kit.specs.declared.place.Place.{Place}
use Rattle.air_kit.specs.Places.{Claim, Spot}

-- what stands beside the row
abbrev pub claim_at : {V : Type 0} → Place V → Claim
claim_at p = record {
  constants = constants_of p.public.now.params;
  digest = p.public.now.statement.digest;
  kernel = p.public.now.statement.kernel;
  inputs = p.public.now.statement.inputs;
  outputs = p.public.now.statement.outputs;
  lengths = p.lengths;
  left_key = p.left_key;
}

-- the row in its place, where a view tells its cells
abbrev pub spot_at : {V : Type 0} → (V → List ℕ) → Place V → Spot
spot_at cells p = record { row = p.row; cur = cells p.cur; next = option_map cells p.next }
