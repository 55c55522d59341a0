use Rattle.std.proofs.Common.{sym, append_assoc, append-nil}
use Rattle.masm_tree.proofs.Mirror.{body_of_nil, view-If}
use Rattle.masm_names.specs.Uses.{dynexecs_of}
use Rattle.masm_graph.proofs.Collecting.{collected-more}
use Rattle.masm_graph.proofs.DynexecLemmas.{dynexecs_of-append}
use Rattle.masm_graph.proofs.dynexecs.+finding.Goals as goal

pub add_body-loop-stmt-init : goal.add_body-loop-stmt-init
add_body-loop-stmt-init t c = rw body_of_nil (sym (append-nil _))

pub add_body-loop-stmt-preserved : goal.add_body-loop-stmt-preserved
add_body-loop-stmt-preserved t c =
    collected-more dynexecs_of dynexecs_of-append c.args.body.now c.loop-stmt.stmt-index c.stmt-item.result _ _ _ c.loop-stmt-test.true
    c.stmt-item.is c.loop-stmt.invariant c.in_ok-add_statement.ensures

pub add_statement-returns-in_ok-add_body-in-If-2 : goal.add_statement-returns-in_ok-add_body-in-If-2
add_statement-returns-in_ok-add_body-in-If-2 t c =
    rw (c.in-If.is, view-If, append-nil, ← append_assoc)
    (cc (c.deref.ensures.value, c.deref-in-If.ensures.value, c.in_ok-add_body-in-If.ensures, c.in_ok-add_body-in-If-2.ensures))
