-- What is refused, and the least refusal of a source.
use Rattle.std.specs.Prelude.{◌≡◌, ℕ, ◌+◌, ◌≤◌, Bool, true, List, [], ◌∷◌, ◌++◌, length, drop, map, Option, Some, Result, Ok, Err, ◌⊎◌}
use Rattle.masm_lex.specs.declared.cursor.Cursor.{Cursor}
use Rattle.masm_lex.specs.declared.list.Token.{Token}
use Rattle.masm_lex.specs.Tokens.{place_after, text_of}
use Rattle.masm_tree.specs.declared.refusal.Cause.{Cause}
use Rattle.masm_tree.specs.declared.refusal.Cause.TheVariants as causes
use Rattle.masm_parse.specs.declared.refusal.ParseError.{ParseError}
use Rattle.masm_parse.specs.declared.refusal.ParseError.TheVariants.{Bad, Memory}
use Rattle.masm_tree.specs.declared.tree.Position.{Position}
use Rattle.masm_tree.specs.declared.terminal.Terminal.{Terminal}
use Rattle.masm_tree.specs.declared.terminal.Terminal.TheVariants as terminals
use Rattle.masm_tree.specs.declared.terminal.Symbol.{Symbol}
use Rattle.masm_tree.specs.Causes.{order}
use Rattle.masm_tree.specs.Classify.{Context, no_context, known_after, classify}
use Rattle.masm_tree.specs.Trees.{Source}
use Rattle.masm_parse.specs.Grammar.{IsSource}
use Rattle.masm_tree.specs.Terminals.{is_opening}
use Rattle.masm_parse.specs.Machine.{at_of, parsed}

-- the tokens of a source as they are read, each with what the tokens before it say
abbrev pub symbols_of : Bool → List ℕ → Context → List Token → List Symbol
symbols_of kernel source context [] = []
symbols_of kernel source context (token ∷ tokens) =
    classify kernel context (at_of token) (text_of source token)
    ∷ symbols_of kernel source (known_after context (classify kernel context (at_of token) (text_of source token)).terminal) tokens

abbrev pub terminals_of : List Symbol → List Terminal
terminals_of symbols = map (λ symbol. symbol.terminal) symbols

-- A token fits where the tokens before it, followed by it, begin some list of tokens of the grammar.
pub record FitsAfter (kernel : Bool) (before : List Terminal) (terminal : Terminal) : Type 0 where
  pub source : Source
  pub more : List Terminal
  pub spelled : IsSource kernel source (before ++ terminal ∷ more)

-- how many procedures and statements begin in these tokens, and how many end
abbrev pub begins : Terminal → ℕ
begins (terminals.Const c) = 0
begins (terminals.Header header) = 1
begins (terminals.Leaf at leaf) = 0
begins (terminals.If at) = 1
begins terminals.Else = 0
begins (terminals.While at) = 1
begins (terminals.Repeat at times) = 1
begins terminals.End = 0

abbrev pub ends : Terminal → ℕ
ends (terminals.Const c) = 0
ends (terminals.Header header) = 0
ends (terminals.Leaf at leaf) = 0
ends (terminals.If at) = 0
ends terminals.Else = 0
ends (terminals.While at) = 0
ends (terminals.Repeat at times) = 0
ends terminals.End = 1

abbrev pub begun : List Terminal → ℕ
begun [] = 0
begun (t ∷ ts) = begins t + begun ts

abbrev pub done : List Terminal → ℕ
done [] = 0
done (t ∷ ts) = ends t + done ts

-- The causes that a token has: its own, Syntax where it does not fit, TooDeep where it stands too deep.
pub data Has (own : Option Cause) (Misfit Deep : Type 0) : Cause → Type 0 where
  by_itself : (cause : Cause) → own ≡ Some cause → Has own Misfit Deep cause
  misfit : Misfit → Has own Misfit Deep causes.Syntax
  too_deep : Deep → Has own Misfit Deep causes.TooDeep

-- it opens a statement, where a procedure and 256 statements are open
abbrev pub IsTooDeep : List Terminal → Terminal → Type 0
IsTooDeep before terminal = (is_opening terminal ≡ true) × (257 + done before ≤ begun before)

-- the cause stands of the token behind these terminals
abbrev pub HasCause : Bool → List Terminal → Symbol → Cause → Type 0
HasCause kernel before symbol cause = Has symbol.fault (FitsAfter kernel before symbol.terminal → ⊥) (IsTooDeep before symbol.terminal) cause

-- the i-th token is refused for the cause
pub record RefusesToken (kernel : Bool) (symbols : List Symbol) (i : ℕ) (cause : Cause) : Type 0 where
  pub before : List Symbol
  pub symbol : Symbol
  pub more : List Symbol
  pub split : symbols ≡ before ++ symbol ∷ more
  pub place : length before ≡ i
  pub stands : HasCause kernel (terminals_of before) symbol cause

-- the tokens begin a source, and are none
pub record EndsEarly (kernel : Bool) (symbols : List Symbol) : Type 0 where
  pub more : List Terminal
  pub source : Source
  pub goes_on : IsSource kernel source (terminals_of symbols ++ more)
  pub is_none : (other : Source) → IsSource kernel other (terminals_of symbols) → ⊥

-- the first place with a refusal, and the first cause there; the early end comes behind all tokens
pub record IsFirstRefusal (kernel : Bool) (symbols : List Symbol) (i : ℕ) (cause : Cause) : Type 0 where
  pub there : RefusesToken kernel symbols i cause ⊎ ((i ≡ length symbols) × (cause ≡ causes.Syntax) × EndsEarly kernel symbols)
  pub first_place : (k : ℕ) (other : Cause) → RefusesToken kernel symbols k other → i ≤ k
  pub first_cause : (other : Cause) → RefusesToken kernel symbols i other → order cause ≤ order other

-- the tokens spell the tree, and none is refused
pub record Parses (kernel : Bool) (symbols : List Symbol) (tree : Source) : Type 0 where
  pub spelled : IsSource kernel tree (terminals_of symbols)
  pub is_clear : (k : ℕ) (cause : Cause) → RefusesToken kernel symbols k cause → ⊥

-- the place of the first of these tokens, or one past the source's last byte
abbrev pub at_first : List Token → Cursor → Position
at_first [] end = record { line = end.line; column = end.column }
at_first (token ∷ tokens) end = at_of token

-- the symbols of a source
abbrev pub source_symbols : Bool → List ℕ → List Token → List Symbol
source_symbols kernel source tokens = symbols_of kernel source no_context tokens

-- What an answer says of tokens and their symbols, in a source that ends at the place.
abbrev pub IsParseAnswer : Bool → Cursor → List Token → List Symbol → Result Source ParseError → Type 0
IsParseAnswer kernel end tokens symbols (Ok tree) = Parses kernel symbols tree
IsParseAnswer kernel end tokens symbols (Err Memory) = ⊥
IsParseAnswer kernel end tokens symbols (Err (Bad line column cause)) =
    (i : ℕ) × IsFirstRefusal kernel symbols i cause × (at_first (drop i tokens) end ≡ record { line = line; column = column })

-- The machine's answer is the tree that the tokens spell where none is refused, and else the least refusal.
abbrev pub LeastRefusal : Type 0
LeastRefusal =
    (kernel : Bool) (source : List ℕ) (tokens : List Token)
    → IsParseAnswer kernel (place_after source) tokens (source_symbols kernel source tokens) (parsed kernel source tokens)

-- A source whose tokens spell a tree, with none refused, has this tree and no other.
abbrev pub ParsesOnce : Type 0
ParsesOnce =
    (kernel : Bool) (source : List ℕ) (tokens : List Token) (tree : Source)
    → Parses kernel (source_symbols kernel source tokens) tree → parsed kernel source tokens ≡ Ok tree
