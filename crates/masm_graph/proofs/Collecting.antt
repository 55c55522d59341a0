-- What is collected of a body, statement by statement, in a list to which it is added.
use Rattle.std.proofs.Common.{◌≡◌, ℕ, ◌+◌, ◌<◌, List, ◌++◌, take, get_or, length, sym, ap, ◌∙◌, append_assoc, append-nil}
use Rattle.std.proofs.lemmas.List.{take_more}
use Rattle.masm_tree.specs.declared.tree.Stmt.{Stmt}
use Rattle.masm_tree.specs.Trees.{Body, Empty, append}
use Rattle.masm_tree.specs.Views.{stmt_view, body_of}
use Rattle.masm_tree.proofs.Mirror.{body_of_push, view-Instr, view-If, view-While, view-Repeat, view-Exec, view-Call, view-Syscall, view-ProcRef, view-DynExec}

-- how each kind of statement is seen
pub ruleset views = (view-Instr, view-If, view-While, view-Repeat, view-Exec, view-Call, view-Syscall, view-ProcRef, view-DynExec, append-nil)

-- one more statement
pub collected-more : {X : Type 0} (collect : Body → List X) → ((b c : Body) → collect (append b c) ≡ collect b ++ collect c)
    → (body : List Stmt) (i : ℕ) (s : Stmt) (first second third : List X) → i < length body → s ≡ get_or body i s
    → second ≡ first ++ collect (body_of (take i body)) → third ≡ second ++ collect (stmt_view s Empty)
    → third ≡ first ++ collect (body_of (take (i + 1) body))
collected-more collect joins body i s first second third within is d e =
    let before = body_of (take i body) in
    let here = stmt_view s Empty in
    e ∙ (ap (λ xs. xs ++ collect here) d ∙ (append_assoc first (collect before) (collect here)
    ∙ ap (λ xs. first ++ xs) (sym (joins before here)
    ∙ ap collect (ap (λ t. append before (stmt_view t Empty)) is ∙ (sym (body_of_push (take i body) (get_or body i s))
    ∙ ap body_of (sym (take_more body i s within)))))))
