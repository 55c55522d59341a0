-- The lists of the code against the bodies of the definitions.
use Rattle.std.proofs.Common.{◌≡◌, ℕ, List, [], ◌∷◌, ◌++◌, Vec, Global, map, refl, ap, sym, subst, ◌∙◌}
use Rattle.masm_instr.specs.Instructions.{Instruction}
use Rattle.masm_tree.specs.declared.tree.Position.{Position}
use Rattle.masm_tree.specs.declared.tree.Stmt.{Stmt}
use Rattle.masm_tree.specs.declared.tree.Stmt.TheOpen.{Stmt-F}
use Rattle.masm_tree.specs.declared.tree.Stmt.TheFolds.{fold-roll-Stmt, fold_out-Stmt}
use Rattle.masm_tree.specs.declared.tree.Stmt.TheVariants.{Instr, If, While, Repeat, Exec, Call, Syscall, ProcRef, DynExec, rolls-Instr, rolls-If, rolls-While, rolls-Repeat, rolls-Exec, rolls-Call, rolls-Syscall, rolls-ProcRef, rolls-DynExec}
use Rattle.masm_tree.specs.declared.terminal.Leaf.TheVariants as leaves
use Rattle.masm_tree.specs.Trees.{Body, Empty, Leaf_then, If_then, While_then, Repeat_then, append}
use Rattle.masm_tree.specs.Views.{joined, add_step, stmt_view, body_of}

pub view-Instr : (at : Position) (instr : Instruction) (rest : Body) → stmt_view (Instr at instr) rest ≡ Leaf_then at (leaves.Instr instr) rest
unfolding stmt_view
view-Instr at instr rest =
    ap (λ f. f rest) (ap stmt_view (sym (rolls-Instr at instr)) ∙ fold-roll-Stmt (Body → Body) add_step (Stmt-F.Instr at instr))

pub view-Exec : (at : Position) (name : List ℕ) (rest : Body) → stmt_view (Exec at name) rest ≡ Leaf_then at (leaves.Exec name) rest
unfolding stmt_view
view-Exec at name rest = ap (λ f. f rest) (ap stmt_view (sym (rolls-Exec at name)) ∙ fold-roll-Stmt (Body → Body) add_step (Stmt-F.Exec at name))

pub view-Call : (at : Position) (name : List ℕ) (rest : Body) → stmt_view (Call at name) rest ≡ Leaf_then at (leaves.Call name) rest
unfolding stmt_view
view-Call at name rest = ap (λ f. f rest) (ap stmt_view (sym (rolls-Call at name)) ∙ fold-roll-Stmt (Body → Body) add_step (Stmt-F.Call at name))

pub view-Syscall : (at : Position) (name : List ℕ) (rest : Body) → stmt_view (Syscall at name) rest ≡ Leaf_then at (leaves.Syscall name) rest
unfolding stmt_view
view-Syscall at name rest =
    ap (λ f. f rest) (ap stmt_view (sym (rolls-Syscall at name)) ∙ fold-roll-Stmt (Body → Body) add_step (Stmt-F.Syscall at name))

pub view-ProcRef : (at : Position) (name : List ℕ) (rest : Body) → stmt_view (ProcRef at name) rest ≡ Leaf_then at (leaves.ProcRef name) rest
unfolding stmt_view
view-ProcRef at name rest =
    ap (λ f. f rest) (ap stmt_view (sym (rolls-ProcRef at name)) ∙ fold-roll-Stmt (Body → Body) add_step (Stmt-F.ProcRef at name))

pub view-DynExec : (at : Position) (rest : Body) → stmt_view (DynExec at) rest ≡ Leaf_then at leaves.DynExec rest
unfolding stmt_view
view-DynExec at rest = ap (λ f. f rest) (ap stmt_view (sym (rolls-DynExec at)) ∙ fold-roll-Stmt (Body → Body) add_step (Stmt-F.DynExec at))

pub view-If : (at : Position) (v w : Vec Stmt Global) (rest : Body) → stmt_view (If at v w) rest ≡ If_then at (body_of v.items) (body_of w.items) rest
unfolding stmt_view body_of
view-If at v w rest = ap (λ f. f rest) (ap stmt_view (sym (rolls-If at v w)) ∙ fold-roll-Stmt (Body → Body) add_step (Stmt-F.If at v w))

pub view-While : (at : Position) (v : Vec Stmt Global) (rest : Body) → stmt_view (While at v) rest ≡ While_then at (body_of v.items) rest
unfolding stmt_view body_of
view-While at v rest = ap (λ f. f rest) (ap stmt_view (sym (rolls-While at v)) ∙ fold-roll-Stmt (Body → Body) add_step (Stmt-F.While at v))

pub view-Repeat : (at : Position) (n : ℕ) (v : Vec Stmt Global) (rest : Body)
    → stmt_view (Repeat at n v) rest ≡ Repeat_then at n (body_of v.items) rest
unfolding stmt_view body_of
view-Repeat at n v rest = ap (λ f. f rest) (ap stmt_view (sym (rolls-Repeat at n v)) ∙ fold-roll-Stmt (Body → Body) add_step (Stmt-F.Repeat at n v))

add_step-append : (f : Stmt-F (Body → Body)) (b c : Body) → append (add_step f b) c ≡ add_step f (append b c)
add_step-append (Stmt-F.Instr at instr) b c = refl
add_step-append (Stmt-F.If at v w) b c = refl
add_step-append (Stmt-F.While at v) b c = refl
add_step-append (Stmt-F.Repeat at n v) b c = refl
add_step-append (Stmt-F.Exec at name) b c = refl
add_step-append (Stmt-F.Call at name) b c = refl
add_step-append (Stmt-F.Syscall at name) b c = refl
add_step-append (Stmt-F.ProcRef at name) b c = refl
add_step-append (Stmt-F.DynExec at) b c = refl

stmt_view-append : (s : Stmt) (b c : Body) → append (stmt_view s b) c ≡ stmt_view s (append b c)
unfolding stmt_view
stmt_view-append s b c =
    subst (λ g. append (g b) c ≡ g (append b c)) (sym (fold_out-Stmt (Body → Body) add_step s)) (add_step-append _ b c)

joined_push : (xs : List Stmt) (s : Stmt) → joined (map stmt_view (xs ++ s ∷ [])) ≡ append (joined (map stmt_view xs)) (stmt_view s Empty)
joined_push [] s = refl
joined_push (x ∷ xs) s =
    ap (stmt_view x) (joined_push xs s) ∙ sym (stmt_view-append x (joined (map stmt_view xs)) (stmt_view s Empty))

pub body_of_nil : body_of [] ≡ Empty
unfolding body_of
body_of_nil = refl

pub body_of_push : (xs : List Stmt) (s : Stmt) → body_of (xs ++ s ∷ []) ≡ append (body_of xs) (stmt_view s Empty)
unfolding body_of
body_of_push xs s = joined_push xs s
