-- The lexer's steps, a byte at a time.
use Rattle.std.specs.Prelude.{ℕ, ◌==◌, if◌then◌else◌, List, [], ◌∷◌, Option, Some, None}
use Rattle.masm_lex.specs.declared.list.Token.{Token}
use Rattle.masm_lex.specs.declared.lexer.Spot.{Spot}
use Rattle.masm_lex.specs.declared.lexer.Spot.TheVariants.{Blank, Comment, Word}
use Rattle.masm_lex.specs.declared.cursor.Cursor.{Cursor}
use Rattle.masm_lex.specs.Tokens.{is_blank, is_word, token_from}

-- where the lexer stands behind a byte outside comments, which is none of a refused kind
abbrev pub spot_outside : Cursor → ℕ → Option Spot
spot_outside start b =
    if is_blank b then Some Blank
    else (if b == 35 then Some Comment else (if is_word b then Some (Word start) else None))

-- where it stands behind the byte b that stands at p; none where that is refused
abbrev pub spot_after : Spot → Cursor → ℕ → Option Spot
spot_after Comment p b = if b == 10 then Some Blank else Some Comment
spot_after Blank p b = spot_outside p b
spot_after (Word start) p b = spot_outside start b

-- the token that ends between two spots, at p
abbrev pub ended : Spot → Spot → Cursor → List Token
ended (Word start) Blank p = token_from start p ∷ []
ended (Word start) Comment p = token_from start p ∷ []
ended (Word start) (Word same) p = []
ended Blank now p = []
ended Comment now p = []
