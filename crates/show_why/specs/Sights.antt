-- What is seen at a place of a source: the token there by its parts, the scene before it, and the rest of the source.
use Rattle.std.specs.Prelude.{ℕ, Bool, List, [], drop, slice_index_or, Option, None, option_map, unwrap_or, Result, Ok, Err}
use Rattle.masm_lex.specs.Tokens.{lexed, text_of}
use Rattle.masm_lex.specs.declared.list.Token.{Token}
use Rattle.masm_lex.specs.declared.refusal.LexError.{LexError}
use Rattle.masm_reading.specs.Reading.{parts_of}
use Rattle.masm_tree.specs.declared.terminal.Header.{Header}
use Rattle.show_why.specs.Neighbours.{scene_of, token_behind}
use Rattle.show_why.specs.Scenes.{Scene, nothing_before, scene_from}

pub record Sight : Type 0 where
  pub scene : Scene
  pub token : Option (List ℕ)  -- the text of the token; none behind all tokens
  pub next : Option (List ℕ)  -- that of the token behind it
  pub procedures : List Header  -- those of the whole source, and begin

-- the first part of the token
abbrev pub first_of : Sight → List ℕ
first_of sight = slice_index_or (parts_of (unwrap_or sight.token [])) 0 []

-- the parts behind it
abbrev pub more_of : Sight → List (List ℕ)
more_of sight = drop 1 (parts_of (unwrap_or sight.token []))

abbrev pub sight_with : List ℕ → Scene × Option Token → Option Token → List Header → Sight
sight_with text (scene, token) next procedures = record {
  scene = scene;
  token = option_map (text_of text) token;
  next = option_map (text_of text) next;
  procedures = procedures;
}

-- a source without tokens shows nothing
abbrev pub sight_in : Bool → List ℕ → ℕ → ℕ → Result (List Token) LexError → Sight
sight_in kernel text line column (Ok tokens) =
    sight_with text (scene_from kernel text line column nothing_before tokens) (token_behind line column tokens)
    (scene_of kernel text nothing_before tokens).headers
sight_in kernel text line column (Err refusal) = record { scene = nothing_before; token = None; next = None; procedures = [] }

unfoldable pub sight_at : Bool → List ℕ → ℕ → ℕ → Sight
sight_at kernel text line column = sight_in kernel text line column (lexed text)
