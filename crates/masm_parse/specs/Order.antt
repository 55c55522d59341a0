-- The order in which the parts of a tree stand in its source.
use Rattle.std.specs.Prelude.{◌≡◌, ℕ, Bool, List, [], ◌∷◌, ◌++◌, map, Option, Some, None, Ok}
use Rattle.std.specs.List.{flat_map}
use Rattle.masm_lex.specs.declared.list.Token.{Token}
use Rattle.masm_lex.specs.Tokens.{lexed}
use Rattle.masm_lex.specs.Order.{Ascends, IsPlaceBefore}
use Rattle.masm_tree.specs.declared.tree.Position.{Position}
use Rattle.masm_parse.specs.Machine.{parsed}
use Rattle.masm_tree.specs.Terminals.{const_positions}
use Rattle.masm_tree.specs.Trees.{Body, Empty, Leaf_then, If_then, While_then, Repeat_then, Procedure, Source, position_of}

abbrev pub StandsBefore : Position → Position → Type 0
StandsBefore place other = IsPlaceBefore place.line place.column other.line other.column

-- the places of a body's statements, each in front of those inside it
abbrev pub body_positions : Body → List Position
body_positions Empty = []
body_positions (Leaf_then at leaf rest) = at ∷ body_positions rest
body_positions (If_then at first second rest) = at ∷ (body_positions first ++ (body_positions second ++ body_positions rest))
body_positions (While_then at body rest) = at ∷ (body_positions body ++ body_positions rest)
body_positions (Repeat_then at times body rest) = at ∷ (body_positions body ++ body_positions rest)

-- the place of a procedure, and those of its statements
abbrev pub procedure_positions : Procedure → List Position
procedure_positions p = position_of p ∷ body_positions p.body

abbrev pub main_positions : Option Procedure → List Position
main_positions None = []
main_positions (Some main) = procedure_positions main

abbrev pub source_positions : Source → List Position
source_positions source = flat_map procedure_positions source.procs ++ main_positions source.main

-- The constants of a tree stand in it in the order of its source, and so do its procedures, with begin behind them, and
-- all their statements.
pub record IsInOrder (source : Source) : Type 0 where
  pub consts : Ascends StandsBefore (const_positions source.consts)
  pub procs : Ascends StandsBefore (source_positions source)

-- each tree is in the order of its source
abbrev pub TreesAreInOrder : Type 0
TreesAreInOrder =
    (kernel : Bool) (text : List ℕ) (tokens : List Token) (source : Source) → lexed text ≡ Ok tokens
    → parsed kernel text tokens ≡ Ok source → IsInOrder source

-- so its procedures alone ascend
abbrev pub ProceduresAscend : Type 0
ProceduresAscend = (source : Source) → IsInOrder source → Ascends StandsBefore (map position_of source.procs)
