use Rattle.masm_flat.proofs.Words.{◌≡◌, ◌+◌, ◌*◌, ◌<◌, ◌||◌, true, false, drop, ap, sym, ◌∙◌, arith, rules, at_drop_all, Empty, stmt_view, body_of, body_of_nil}
use Rattle.masm_tree.proofs.Mirror.{view-If, view-While, view-Repeat}
use Rattle.masm_flat.proofs.Statements.{is_dynamic, dynamic-first, weight, next, lighter}
use Rattle.masm_flat.proofs.dynexecs.+dynexecs.Goals as goal

pub has_dynexec-is_dynamic-requires : goal.has_dynexec-is_dynamic-requires
has_dynexec-is_dynamic-requires t c =
    let n = next c.args.body.now c.loop-stmt.stmt-index (omega arith) c.stmt-item.is in
    let smaller : 2 * weight (stmt_view c.stmt-item.result Empty) < 2 * weight (body_of c.args.body.now) + 1 =
    omega (arith, n.weights, c.loop-stmt.invariant.light) in
    search rules

pub has_dynexec-returns-then-is_dynamic : goal.has_dynexec-returns-then-is_dynamic
has_dynexec-returns-then-is_dynamic t c =
    let n = next c.args.body.now c.loop-stmt.stmt-index (omega arith) c.stmt-item.is in
    let behind = body_of (drop (c.loop-stmt.stmt-index + 1) c.args.body.now) in
    let one : is_dynamic (stmt_view c.stmt-item.result Empty) ≡ true = sym c.is_dynamic.ensures ∙ c.if-is_dynamic.true in
    sym (sym c.loop-stmt.invariant.none ∙ (ap is_dynamic n.split ∙ (dynamic-first _ behind ∙ ap (λ b. b || is_dynamic behind) one)))

pub has_dynexec-loop-stmt-preserved : goal.has_dynexec-loop-stmt-preserved
has_dynexec-loop-stmt-preserved t c =
    let n = next c.args.body.now c.loop-stmt.stmt-index (omega arith) c.stmt-item.is in
    let behind = body_of (drop (c.loop-stmt.stmt-index + 1) c.args.body.now) in
    let no : is_dynamic (stmt_view c.stmt-item.result Empty) ≡ false = sym c.is_dynamic.ensures ∙ c.if-is_dynamic.false in
    record {
      none = sym (ap is_dynamic n.split ∙ (dynamic-first _ behind ∙ ap (λ b. b || is_dynamic behind) no)) ∙ c.loop-stmt.invariant.none;
      light = omega (arith, n.weights, c.loop-stmt.invariant.light);
    }

pub has_dynexec-returns : goal.has_dynexec-returns
has_dynexec-returns t c =
    let none = at_drop_all body_of c.args.body.now c.loop-stmt.stmt-index (omega arith) ∙ body_of_nil in
    sym (ap is_dynamic none) ∙ c.loop-stmt.invariant.none

pub is_dynamic-has_dynexec-requires : goal.is_dynamic-has_dynexec-requires
is_dynamic-has_dynexec-requires t c =
    let less = lighter c.in-If.is (view-If _ _ _ Empty) c.deref.ensures.value (omega arith) in
    omega arith

pub is_dynamic-has_dynexec-requires-else-has_dynexec : goal.is_dynamic-has_dynexec-requires-else-has_dynexec
is_dynamic-has_dynexec-requires-else-has_dynexec t c =
    let less = lighter c.in-If.is (view-If _ _ _ Empty) c.deref-else-has_dynexec.ensures.value (omega arith) in
    omega arith

pub is_dynamic-has_dynexec-requires-in-While : goal.is_dynamic-has_dynexec-requires-in-While
is_dynamic-has_dynexec-requires-in-While t c =
    let less = lighter c.in-While.is (view-While _ _ Empty) c.deref-in-While.ensures.value (omega arith) in
    omega arith

pub is_dynamic-has_dynexec-requires-in-Repeat : goal.is_dynamic-has_dynexec-requires-in-Repeat
is_dynamic-has_dynexec-requires-in-Repeat t c =
    let less = lighter c.in-Repeat.is (view-Repeat _ _ _ Empty) c.deref-in-Repeat.ensures.value (omega arith) in
    omega arith
