-- The order of places in a source, and of its tokens.
use Rattle.std.specs.Prelude.{◌≡◌, ℕ, ◌<◌, ◌≤◌, List, [], ◌∷◌, Ok}
use Rattle.std.specs.List.{AllByRecursion}
use Rattle.masm_lex.specs.declared.list.Token.{Token}
use Rattle.masm_lex.specs.Tokens.{lexed}

-- Each element stands in the relation to each later one.
abbrev pub Ascends : {A : Type 0} → (A → A → Type 0) → List A → Type 0
Ascends Before [] = Unit {0}
Ascends Before (x ∷ xs) = AllByRecursion (Before x) xs × Ascends Before xs

-- a line and a column stand before others: on an earlier line, or on the same line in an earlier column
pub record IsPlaceBefore (line column other_line other_column : ℕ) : Type 0 where
  pub lines : line ≤ other_line
  pub columns : line ≡ other_line → column < other_column

-- a token ends before another begins, and its place stands before the other's
pub record Precedes (token other : Token) : Type 0 where
  pub bytes : token.end < other.start
  pub place : IsPlaceBefore token.line token.column other.line other.column

-- the tokens of a source stand in its order
abbrev pub TokensAscend : Type 0
TokensAscend = (source : List ℕ) (tokens : List Token) → lexed source ≡ Ok tokens → Ascends Precedes tokens
