-- The places of names, as a map keeps them.
use Rattle.std.specs.Prelude.{ℕ, List, Option, bytes_eq}
use Rattle.indexmap.specs.IndexMap.{get_by}
use Rattle.masm_names.specs.declared.names.Names.{Names}

-- the place of a name
abbrev pub place_at : Names → List ℕ → Option ℕ
place_at names name = get_by (λ key. bytes_eq name key.items) names.places
