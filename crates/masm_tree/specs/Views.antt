-- The trees of the code as the definitions see them.
use Rattle.std.specs.Prelude.{List, [], ◌∷◌, map}
use Rattle.std.specs.Option.{option_map}
use Rattle.masm_tree.specs.declared.terminal.Leaf.TheVariants as leaves
use Rattle.masm_tree.specs.declared.tree.Stmt.{Stmt}
use Rattle.masm_tree.specs.declared.tree.Stmt.TheOpen.{Stmt-F}
use Rattle.masm_tree.specs.declared.tree.Stmt.TheFolds.{fold-Stmt}
use Rattle.masm_tree.specs.declared.tree.Proc.{Proc}
use Rattle.masm_tree.specs.declared.tree.Ast.{Ast}
use Rattle.masm_tree.specs.Trees.{Body, Empty, Leaf_then, If_then, While_then, Repeat_then, Procedure, Source}

abbrev pub joined : List (Body → Body) → Body
joined [] = Empty
joined (f ∷ fs) = f (joined fs)

-- a statement in front of a body
abbrev pub add_step : Stmt-F (Body → Body) → Body → Body
add_step (Stmt-F.Instr at instr) rest = Leaf_then at (leaves.Instr instr) rest
add_step (Stmt-F.If at first second) rest = If_then at (joined first.items) (joined second.items) rest
add_step (Stmt-F.While at body) rest = While_then at (joined body.items) rest
add_step (Stmt-F.Repeat at times body) rest = Repeat_then at times (joined body.items) rest
add_step (Stmt-F.Exec at name) rest = Leaf_then at (leaves.Exec name) rest
add_step (Stmt-F.Call at name) rest = Leaf_then at (leaves.Call name) rest
add_step (Stmt-F.Syscall at name) rest = Leaf_then at (leaves.Syscall name) rest
add_step (Stmt-F.ProcRef at name) rest = Leaf_then at (leaves.ProcRef name) rest
add_step (Stmt-F.DynExec at) rest = Leaf_then at leaves.DynExec rest

unfoldable pub stmt_view : Stmt → Body → Body
stmt_view = fold-Stmt (Body → Body) add_step

-- the body of a list of statements
unfoldable pub body_of : List Stmt → Body
body_of stmts = joined (map stmt_view stmts)

abbrev pub procedure_of : Proc → Procedure
procedure_of p =
    record { name = p.name; locals = p.locals; exported = p.exported; body = body_of p.body.items; line = p.line; column = p.column }

abbrev pub source_of : Ast → Source
source_of ast =
    record { consts = ast.consts; procs = map procedure_of ast.procs.items; main = option_map procedure_of ast.main }
