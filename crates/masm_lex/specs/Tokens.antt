-- How a source is cut into tokens. Space, tab, line feed and carriage return separate them. A # begins a comment up to
-- the end of its line, wherever it stands. Outside comments every other byte is one from 0x21 to 0x7e.
use Rattle.std.specs.Prelude.{◌≡◌, ℕ, ◌+◌, ◌<◌, ◌≤◌, Bool, ◌==◌, ◌&&◌, ◌||◌, nat_le, if◌then◌else◌, List, [], ◌∷◌, length, take, fold, All, Option, Some, None, Result, Ok, Err, slice_range}
use Rattle.masm_lex.specs.declared.cursor.Cursor.{Cursor}
use Rattle.masm_lex.specs.declared.list.Token.{Token}
use Rattle.masm_lex.specs.declared.refusal.LexError.{LexError}
use Rattle.masm_lex.specs.declared.refusal.LexError.TheVariants.{Bad, Memory}

-- space, tab, line feed, carriage return
abbrev pub is_blank : ℕ → Bool
is_blank b = (b == 32) || (b == 9) || (b == 10) || (b == 13)

-- a byte that a token may have
abbrev pub is_word : ℕ → Bool
is_word b = nat_le 33 b && nat_le b 126

abbrev pub first_place : Cursor
first_place = record { index = 0; line = 1; column = 1 }

-- the place behind a byte that stands at p
abbrev pub next : Cursor → ℕ → Cursor
next p b =
    if b == 10 then record { index = p.index + 1; line = p.line + 1; column = 1 }
    else record { index = p.index + 1; line = p.line; column = p.column + 1 }

-- the place behind these bytes
abbrev pub place_after : List ℕ → Cursor
place_after bytes = fold next first_place bytes

-- A comment counts as blanks: the source with a space in place of each byte from a # to the end of its line.
abbrev mutual
  pub outside : List ℕ → List ℕ
  outside [] = []
  outside (b ∷ bs) = if b == 35 then 32 ∷ inside bs else b ∷ outside bs

  pub inside : List ℕ → List ℕ
  inside [] = []
  inside (b ∷ bs) = if b == 10 then 10 ∷ outside bs else 32 ∷ inside bs

abbrev pub token_from : Cursor → Cursor → Token
token_from start behind =
    record { start = start.index; end = behind.index; line = start.line; column = start.column }

-- The longest runs of bytes that are no blanks, from a place on. A run that began at start goes on in run_on.
abbrev mutual
  pub runs : Cursor → List ℕ → List Token
  runs p [] = []
  runs p (b ∷ bs) = if is_blank b then runs (next p b) bs else run_on p (next p b) bs

  pub run_on : Cursor → Cursor → List ℕ → List Token
  run_on start p [] = token_from start p ∷ []
  run_on start p (b ∷ bs) =
      if is_blank b then token_from start p ∷ runs (next p b) bs else run_on start (next p b) bs

-- the place of the first byte that is neither a blank nor one of a token
abbrev pub first_bad : Cursor → List ℕ → Option Cursor
first_bad p [] = None
first_bad p (b ∷ bs) = if is_blank b || is_word b then first_bad (next p b) bs else Some p

-- what an error says of the source: its refusal, if it is one
abbrev pub refusal_in : LexError → Option LexError
refusal_in (Bad line column) = Some (Bad line column)
refusal_in Memory = None

-- the tokens where no byte is refused
abbrev pub unless_refused : Option Cursor → List Token → Result (List Token) LexError
unless_refused None tokens = Ok tokens
unless_refused (Some p) tokens = Err (Bad p.line p.column)

-- the tokens of a source, or the refusal of its first byte that is refused
unfoldable pub lexed : List ℕ → Result (List Token) LexError
lexed source =
    unless_refused (first_bad first_place (outside source)) (runs first_place (outside source))

-- A token's bytes are a part of the source, and its place is that of its first byte.
pub record IsPart (source : List ℕ) (token : Token) : Type 0 where
  pub begun : token.start < token.end
  pub within : token.end ≤ length source
  pub place : place_after (take token.start source) ≡ record { index = token.start; line = token.line; column = token.column }

-- each token of a source is a part of it
abbrev pub TokensAreParts : Type 0
TokensAreParts = (source : List ℕ) (tokens : List Token) → lexed source ≡ Ok tokens → All (IsPart source) tokens

-- the bytes of a token
abbrev pub text_of : List ℕ → Token → List ℕ
text_of source token = slice_range source token.start token.end
