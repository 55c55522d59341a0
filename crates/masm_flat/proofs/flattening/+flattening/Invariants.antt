use Rattle.masm_flat.proofs.Words.{◌≡◌, ◌+◌, ◌*◌, ◌≤◌, List, ◌++◌, drop, Tree, Empty, stmt_view, body_of, as_tree, Known, flat_with, HasLocals, Keeps, Serves}
use Rattle.masm_flat.proofs.Words.{pieces_of, Use, uses_of}
use Rattle.masm_flat.proofs.Statements.{weight}
use Rattle.masm_flat.proofs.flattening.+flattening.Given as goal

abbrev pub invariant-flatten-loop-stmt : goal.invariant-flatten-loop-stmt
invariant-flatten-loop-stmt l = record {
  gives :
      (known : Known Tree) (rest : List Use) → Serves l.scope known l.fn.table (uses_of (body_of l.body) ++ rest)
      → (pieces_of l.out.items ++ flat_with as_tree known l.locals (body_of (drop l.stmt-index l.body))
      ≡ pieces_of l.fn.out.items ++ flat_with as_tree known l.locals (body_of l.body))
      × Serves l.scope known l.table (uses_of (body_of (drop l.stmt-index l.body)) ++ rest);
  keeps : Keeps l.fn.table l.table;
  locals : HasLocals l.locals (body_of (drop l.stmt-index l.body));
  light : weight (body_of (drop l.stmt-index l.body)) ≤ weight (body_of l.body);
}

abbrev pub decreases-flatten : goal.decreases-flatten
decreases-flatten l = 3 * weight (body_of l.body.now) + 1

abbrev pub decreases-add_statement : goal.decreases-add_statement
decreases-add_statement l = 3 * weight (stmt_view l.stmt.now Empty)

abbrev pub decreases-list_of : goal.decreases-list_of
decreases-list_of l = 3 * weight (body_of l.body.now) + 2
