use Rattle.std.proofs.Common.{◌∷◌, [], sym, ap, ap₂, ◌∙◌}
use Rattle.std.proofs.lemmas.List.{take_more}
use Rattle.masm_tree.specs.declared.tree.Stmt.TheVariants.{Instr}
use Rattle.masm_tree.specs.Trees.{Empty, append}
use Rattle.masm_tree.specs.Views.{body_of}
use Rattle.masm_tree.proofs.Mirror.{body_of_nil, body_of_push, view-Instr}
use Rattle.masm_link.specs.Libraries.{nowhere, plain_body}
use Rattle.masm_link.proofs.LibraryPlaces.{plain_body-push}
use Rattle.masm_link.proofs.library.body.Goals as goal

pub loop-instr-init : goal.loop-instr-init
loop-instr-init c = ap body_of c.in_ok-stmts.ensures.items ∙ body_of_nil

pub loop-instr-preserved : goal.loop-instr-preserved
loop-instr-preserved c =
    let xs = c.args.instructions.now in
    let i = c.loop-instr.instr-index in
    let x = c.instr-item.result in
    let old = c.loop-instr.stmts.items in
    let pushed = ap body_of c.in_ok-push.ensures.items ∙ body_of_push old (Instr nowhere c.in_ok-copied.field-0) in
    let one = view-Instr nowhere c.in_ok-copied.field-0 Empty ∙ ap (λ instr. plain_body (instr ∷ [])) (c.in_ok-copied.ensures ∙ c.instr-item.is) in
    pushed
    ∙ (ap₂ append c.loop-instr.invariant one
    ∙ (sym (plain_body-push _ _) ∙ ap plain_body (sym (take_more xs i x c.loop-instr-test.true))))
