-- Tokens by themselves, wherever they stand.
use Rattle.std.specs.Prelude.{ℕ, Bool, true, false, ◌==◌, ◌&&◌, not, List, [], ◌++◌, codes, length, Option, Some, unwrap_or}
use Rattle.masm_tree.specs.Classify.{classify}
use Rattle.masm_tree.specs.declared.refusal.Cause.{Cause}
use Rattle.masm_tree.specs.declared.refusal.Cause.TheVariants as parsing
use Rattle.show_tokens.specs.Forms.{is_procedure}
use Rattle.show_why.specs.Scenes.{Scene}

abbrev pub is_syntax : Option Cause → Bool
is_syntax (Some parsing.Syntax) = true
is_syntax other = false

-- whether the token by itself is of a wrong form
abbrev pub is_malformed : Bool → Scene → List ℕ → Bool
is_malformed kernel scene token = is_syntax (classify kernel scene.context (record { line = 0; column = 0 }) token).fault

-- a token and the next one as one
abbrev pub joined_token : List ℕ → List ℕ → List ℕ
joined_token first next = first ++ codes "." ++ next

-- proc f: a token that begins a procedure, without the name that stands behind it
abbrev pub lacks_name : Bool → Scene → List ℕ → List (List ℕ) → Option (List ℕ) → Bool
lacks_name kernel scene first more next =
    is_procedure first && (length more == 0) && not (is_malformed kernel scene (joined_token first (unwrap_or next [])))
