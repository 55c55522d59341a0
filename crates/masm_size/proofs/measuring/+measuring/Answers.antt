use Rattle.std.proofs.Common.{◌+◌, ◌*◌, ◌<◌, drop, ap, sym, subst, ◌∙◌, arith, rules}
use Rattle.std.proofs.lemmas.List.{at_drop_all}
use Rattle.masm_tree.specs.Trees.{Body, Empty}
use Rattle.masm_tree.specs.Views.{stmt_view, body_of}
use Rattle.masm_tree.proofs.Mirror.{body_of_nil, view-Instr, view-If, view-While, view-Repeat}
use Rattle.masm_tree.specs.Locals.{HasLocals}
use Rattle.masm_size.specs.KnownSizes.{known_sizes_of}
use Rattle.masm_size.specs.Sizes.{size_view, size_onto}
use Rattle.masm_size.proofs.Sizing.{onto-first}
use Rattle.masm_flat.proofs.Statements.{shown, weight, next, lighter, inside}
use Rattle.masm_size.proofs.measuring.+measuring.Goals as goal

pub with_statement-with_instr-requires : goal.with_statement-with_instr-requires
with_statement-with_instr-requires t c = (subst (HasLocals c.args.locals) (shown c.in-Instr.is (view-Instr _ _ Empty)) c.requires).0

pub with_statement-extent-requires : goal.with_statement-extent-requires
with_statement-extent-requires t c =
    let given = inside c.args.locals c.in-If.is (view-If _ _ _ Empty) c.deref.ensures.value (λ h. h.0) c.requires in
    let less = lighter c.in-If.is (view-If _ _ _ Empty) c.deref.ensures.value (omega arith) in
    (omega arith, given)

pub with_statement-extent-requires-in-If : goal.with_statement-extent-requires-in-If
with_statement-extent-requires-in-If t c =
    let given = inside c.args.locals c.in-If.is (view-If _ _ _ Empty) c.deref-in-If.ensures.value (λ h. h.1) c.requires in
    let less = lighter c.in-If.is (view-If _ _ _ Empty) c.deref-in-If.ensures.value (omega arith) in
    (omega arith, given)

pub with_statement-extent-requires-in-While : goal.with_statement-extent-requires-in-While
with_statement-extent-requires-in-While t c =
    let given = inside c.args.locals c.in-While.is (view-While _ _ Empty) c.deref-in-While.ensures.value (λ h. h.0) c.requires in
    let less = lighter c.in-While.is (view-While _ _ Empty) c.deref-in-While.ensures.value (omega arith) in
    (omega arith, given)

pub with_statement-size_onto-requires : goal.with_statement-size_onto-requires
with_statement-size_onto-requires t c =
    let given = inside c.args.locals c.in-Repeat.is (view-Repeat _ _ _ Empty) c.deref-in-Repeat.ensures.value (λ h. h.0) c.requires in
    let less = lighter c.in-Repeat.is (view-Repeat _ _ _ Empty) c.deref-in-Repeat.ensures.value (omega arith) in
    (omega arith, given)

pub size_onto-with_statement-requires : goal.size_onto-with_statement-requires
size_onto-with_statement-requires t c =
    let n = next c.args.body.now c.loop-stmt.stmt-index (omega arith) c.stmt-item.is in
    let given = (n.locals c.args.locals c.loop-stmt.invariant.locals).0 in
    let smaller : 3 * weight (stmt_view c.stmt-item.result Empty) < 3 * weight (body_of c.args.body.now) + 1 =
    omega (arith, n.weights, c.loop-stmt.invariant.light) in
    search rules

pub size_onto-loop-stmt-preserved : goal.size_onto-loop-stmt-preserved
size_onto-loop-stmt-preserved t c =
    let n = next c.args.body.now c.loop-stmt.stmt-index (omega arith) c.stmt-item.is in
    let rest = body_of (drop (c.loop-stmt.stmt-index + 1) c.args.body.now) in
    let known = known_sizes_of c.args.sizes.now in
    let before = size_view c.loop-stmt.size in
    record {
      sized = ap (size_onto known c.args.locals rest) c.in_ok-size.ensures ∙ sym (onto-first known c.args.locals c.stmt-item.result rest before)
          ∙ ap (λ b. size_onto known c.args.locals b before) (sym n.split) ∙ c.loop-stmt.invariant.sized;
      locals = (n.locals c.args.locals c.loop-stmt.invariant.locals).1;
      light = omega (arith, n.weights, c.loop-stmt.invariant.light);
    }

pub size_onto-returns : goal.size_onto-returns
size_onto-returns t c =
    let onto = λ (b : Body). size_onto (known_sizes_of c.args.sizes.now) c.args.locals b (size_view c.loop-stmt.size) in
    let none = ap onto (at_drop_all body_of c.args.body.now c.loop-stmt.stmt-index (omega arith) ∙ body_of_nil) in
    sym none ∙ c.loop-stmt.invariant.sized
