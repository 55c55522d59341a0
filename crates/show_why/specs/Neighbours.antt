-- What the rest of a source says of one token: the token behind it, and the scene behind all tokens.
use Rattle.std.specs.Prelude.{ℕ, Bool, if◌then◌else◌, List, [], ◌∷◌, slice_get, Option, None}
use Rattle.masm_lex.specs.declared.list.Token.{Token}
use Rattle.show_why.specs.Scenes.{Scene, read_at, scene_behind, stands_at}

-- the token behind that of a place
abbrev pub token_behind : ℕ → ℕ → List Token → Option Token
token_behind line column [] = None
token_behind line column (token ∷ tokens) =
    if stands_at line column token then slice_get tokens 0 else token_behind line column tokens

-- the scene behind these tokens
abbrev pub scene_of : Bool → List ℕ → Scene → List Token → Scene
scene_of kernel text scene [] = scene
scene_of kernel text scene (token ∷ tokens) =
    scene_of kernel text (scene_behind scene token (read_at kernel text scene token).terminal) tokens
