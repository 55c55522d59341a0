-- Syntax trees. A body is told as its first statement and the statements behind it.
use Rattle.std.specs.Prelude.{ℕ, Bool, List, Option}
use Rattle.masm_reading.specs.declared.constant.Const.{Const}
use Rattle.masm_tree.specs.declared.tree.Position.{Position}
use Rattle.masm_tree.specs.declared.terminal.Leaf.{Leaf}

pub data Body : Type 0 where
  Empty : Body
  Leaf_then : (at : Position) (leaf : Leaf) (rest : Body) → Body
  If_then : (at : Position) (first second rest : Body) → Body
  While_then : (at : Position) (body rest : Body) → Body
  Repeat_then : (at : Position) (times : ℕ) (body rest : Body) → Body

pub record Procedure : Type 0 where
  pub name : List ℕ
  pub locals : ℕ
  pub exported : Bool
  pub body : Body
  pub line : ℕ
  pub column : ℕ

-- where a procedure begins
abbrev pub position_of : Procedure → Position
position_of p = record { line = p.line; column = p.column }

pub record Source : Type 0 where
  pub consts : List Const
  pub procs : List Procedure
  pub main : Option Procedure

-- the statements of one body and then those of another
abbrev pub append : Body → Body → Body
append Empty c = c
append (Leaf_then at leaf rest) c = Leaf_then at leaf (append rest c)
append (If_then at first second rest) c = If_then at first second (append rest c)
append (While_then at body rest) c = While_then at body (append rest c)
append (Repeat_then at times body rest) c = Repeat_then at times body (append rest c)
