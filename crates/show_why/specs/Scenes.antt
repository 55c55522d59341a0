-- What the tokens before a place of a source define, and what they leave open.
use Rattle.std.specs.Prelude.{ℕ, ◌-◌, ◌==◌, ◌&&◌, Bool, if◌then◌else◌, List, [], ◌∷◌, ◌++◌, length, slice_get, take, Option, Some, None}
use Rattle.masm_lex.specs.declared.list.Token.{Token}
use Rattle.masm_lex.specs.Tokens.{text_of}
use Rattle.masm_tree.specs.Classify.{Context, classify, known_after, no_context}
use Rattle.masm_tree.specs.declared.terminal.Header.{Header}
use Rattle.masm_tree.specs.declared.terminal.Symbol.{Symbol}
use Rattle.masm_tree.specs.declared.terminal.Terminal.{Terminal}
use Rattle.masm_tree.specs.declared.terminal.Terminal.TheVariants as terminals
use Rattle.masm_tree.specs.declared.tree.Position.{Position}

pub record Scene : Type 0 where
  pub context : Context  -- the constants, and the count of locals of the procedure that began last
  pub headers : List Header  -- the procedures, and begin
  pub opens : List Token  -- the tokens whose bodies are open, the innermost last

abbrev pub nothing_before : Scene
nothing_before = record { context = no_context; headers = []; opens = [] }

abbrev pub place_of : Token → Position
place_of token = record { line = token.line; column = token.column }

-- how a token is read behind a scene
abbrev pub read_at : Bool → List ℕ → Scene → Token → Symbol
read_at kernel text scene token = classify kernel scene.context (place_of token) (text_of text token)

-- all but the last one
abbrev pub but_last : List Token → List Token
but_last opens = take (length opens - 1) opens

-- what is open behind a token; an else takes the place of its if.true
abbrev pub opens_behind : List Token → Token → Terminal → List Token
opens_behind opens token (terminals.Const c) = opens
opens_behind opens token (terminals.Header header) = opens ++ token ∷ []
opens_behind opens token (terminals.Leaf at leaf) = opens
opens_behind opens token (terminals.If at) = opens ++ token ∷ []
opens_behind opens token terminals.Else = but_last opens ++ token ∷ []
opens_behind opens token (terminals.While at) = opens ++ token ∷ []
opens_behind opens token (terminals.Repeat at times) = opens ++ token ∷ []
opens_behind opens token terminals.End = but_last opens

abbrev pub headers_behind : List Header → Terminal → List Header
headers_behind headers (terminals.Header header) = headers ++ header ∷ []
headers_behind headers other = headers

abbrev pub scene_behind : Scene → Token → Terminal → Scene
scene_behind scene token terminal = record {
  context = known_after scene.context terminal;
  headers = headers_behind scene.headers terminal;
  opens = opens_behind scene.opens token terminal;
}

-- whether a token has this place
abbrev pub stands_at : ℕ → ℕ → Token → Bool
stands_at line column token = (token.line == line) && (token.column == column)

-- the scene before the token of a place, and that token; behind all tokens where no token has the place
abbrev pub scene_from : Bool → List ℕ → ℕ → ℕ → Scene → List Token → Scene × Option Token
scene_from kernel text line column scene [] = (scene, None)
scene_from kernel text line column scene (token ∷ tokens) =
    if stands_at line column token then (scene, Some token)
    else scene_from kernel text line column (scene_behind scene token (read_at kernel text scene token).terminal) tokens

-- the token whose body is the innermost one that is open
abbrev pub innermost : Scene → Option Token
innermost scene = slice_get scene.opens (length scene.opens - 1)

-- the header of the procedure that began last
abbrev pub last_header : Scene → Option Header
last_header scene = slice_get scene.headers (length scene.headers - 1)
