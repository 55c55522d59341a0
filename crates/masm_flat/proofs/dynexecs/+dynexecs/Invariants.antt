use Rattle.masm_flat.proofs.Words.{◌≡◌, ◌+◌, ◌*◌, ◌≤◌, drop, Empty, stmt_view, body_of}
use Rattle.masm_flat.proofs.Statements.{is_dynamic, weight}
use Rattle.masm_flat.proofs.dynexecs.+dynexecs.Given as goal

abbrev pub invariant-has_dynexec-loop-stmt : goal.invariant-has_dynexec-loop-stmt
invariant-has_dynexec-loop-stmt l = record {
  none : is_dynamic (body_of (drop l.stmt-index l.body)) ≡ is_dynamic (body_of l.body);
  light : weight (body_of (drop l.stmt-index l.body)) ≤ weight (body_of l.body);
}

abbrev pub decreases-has_dynexec : goal.decreases-has_dynexec
decreases-has_dynexec l = 2 * weight (body_of l.body.now) + 1

abbrev pub decreases-is_dynamic : goal.decreases-is_dynamic
decreases-is_dynamic l = 2 * weight (stmt_view l.stmt.now Empty)
