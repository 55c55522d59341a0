use Rattle.masm_flat.proofs.Words.{◌+◌, ◌*◌, ◌<◌, [], ◌∷◌, ◌++◌, map, drop, refl, ap, sym, subst, ◌∙◌, append_assoc, arith, rules, at_drop_all, Empty}
use Rattle.masm_flat.proofs.Words.{stmt_view, body_of, body_of_nil, as_tree, whole, Operation, Whole, times, digest_items, flat_with, HasLocals, Serves}
use Rattle.masm_flat.proofs.Words.{uses_of, expansion, pieces_of}
use Rattle.std.proofs.Common.{append-nil}
use Rattle.block_tree.specs.Trees as trees
use Rattle.masm_tree.proofs.Mirror.{view-Instr, view-If, view-While, view-Repeat, view-Exec, view-Call, view-Syscall, view-ProcRef, view-DynExec}
use Rattle.masm_flat.proofs.Statements.{shown, flat-first, uses-first, go_on, weight, next, lighter, inside}
use Rattle.masm_flat.proofs.Served.{keeps_then, on_ok, comes_same, comes_as, comes_then, comes_end, comes_statement, comes_body, comes_exported, comes_referred, comes_dispatched}
use Rattle.masm_flat.proofs.flattening.+flattening.Goals as goal

pub add_statement-add_instr-requires : goal.add_statement-add_instr-requires
add_statement-add_instr-requires t c = (subst (HasLocals c.args.locals) (shown c.in-Instr.is (view-Instr _ _ Empty)) c.requires).0

pub add_statement-list_of-requires : goal.add_statement-list_of-requires
add_statement-list_of-requires t c =
    let given = inside c.args.locals c.in-If.is (view-If _ _ _ Empty) c.deref.ensures.value (λ h. h.0) c.requires in
    let less = lighter c.in-If.is (view-If _ _ _ Empty) c.deref.ensures.value (omega arith) in
    (omega arith, given)

pub add_statement-list_of-requires-in-If : goal.add_statement-list_of-requires-in-If
add_statement-list_of-requires-in-If t c =
    let given = inside c.args.locals c.in-If.is (view-If _ _ _ Empty) c.deref-in-If.ensures.value (λ h. h.1) c.requires in
    let less = lighter c.in-If.is (view-If _ _ _ Empty) c.deref-in-If.ensures.value (omega arith) in
    (omega arith, given)

pub add_statement-list_of-requires-in-While : goal.add_statement-list_of-requires-in-While
add_statement-list_of-requires-in-While t c =
    let given = inside c.args.locals c.in-While.is (view-While _ _ Empty) c.deref-in-While.ensures.value (λ h. h.0) c.requires in
    let less = lighter c.in-While.is (view-While _ _ Empty) c.deref-in-While.ensures.value (omega arith) in
    (omega arith, given)

pub add_statement-list_of-requires-in-Repeat : goal.add_statement-list_of-requires-in-Repeat
add_statement-list_of-requires-in-Repeat t c =
    let given = inside c.args.locals c.in-Repeat.is (view-Repeat _ _ _ Empty) c.deref-in-Repeat.ensures.value (λ h. h.0) c.requires in
    let less = lighter c.in-Repeat.is (view-Repeat _ _ _ Empty) c.deref-in-Repeat.ensures.value (omega arith) in
    (omega arith, given)

pub add_statement-returns-in-Instr : goal.add_statement-returns-in-Instr
add_statement-returns-in-Instr t c =
    let out = pieces_of c.args.out.now.items in
    on_ok c.add_instr.result (λ is.
    comes_statement c.args.stmt.now c.args.locals out (shown c.in-Instr.is (view-Instr _ _ Empty)) (λ xs. out ++ xs)
    (comes_same (map Operation (expansion c.in-Instr.instr.name c.in-Instr.instr.numbers c.args.locals)))
    (λ known. ap (λ xs. out ++ xs) (sym (append-nil _))) is) c.add_instr.ensures

pub add_statement-returns-in-Exec : goal.add_statement-returns-in-Exec
add_statement-returns-in-Exec t c =
    let out = pieces_of c.args.out.now.items in
    on_ok c.add_used.result (λ comes.
    comes_statement c.args.stmt.now c.args.locals out (shown c.in-Exec.is (view-Exec _ _ Empty)) (λ xs. xs) (comes c.in-Exec.field-0)
    (λ known. ap (λ xs. out ++ xs) (sym (append-nil _))) refl) c.add_used.ensures

pub add_statement-returns-in_ok-called-in-Call : goal.add_statement-returns-in_ok-called-in-Call
add_statement-returns-in_ok-called-in-Call t c =
    let out = pieces_of c.args.out.now.items in
    on_ok c.add_tree.result (λ is.
    comes_statement c.args.stmt.now c.args.locals out (shown c.in-Call.is (view-Call _ _ Empty)) (λ tree. out ++ Whole tree ∷ [])
    (c.in_ok-called-in-Call.ensures c.in-Call.field-0) (λ known. refl) is) c.add_tree.ensures

pub add_statement-returns-in_ok-kernel_called-in-Syscall : goal.add_statement-returns-in_ok-kernel_called-in-Syscall
add_statement-returns-in_ok-kernel_called-in-Syscall t c =
    let out = pieces_of c.args.out.now.items in
    on_ok c.add_tree-in-Syscall.result (λ is.
    comes_statement c.args.stmt.now c.args.locals out (shown c.in-Syscall.is (view-Syscall _ _ Empty)) (λ tree. out ++ Whole tree ∷ [])
    (comes_exported c.in-Syscall.field-0 c.in-Syscall.name trees.Syscall c.in_ok-kernel_called-in-Syscall.ensures) (λ known. refl) is)
    c.add_tree-in-Syscall.ensures

pub add_statement-returns-in-ProcRef : goal.add_statement-returns-in-ProcRef
add_statement-returns-in-ProcRef t c =
    let out = pieces_of c.args.out.now.items in
    on_ok c.add_reference.result (λ is.
    comes_statement c.args.stmt.now c.args.locals out (shown c.in-ProcRef.is (view-ProcRef _ _ Empty)) (λ digest. out ++ map Operation (digest_items digest))
    (comes_referred c.in-ProcRef.field-0 c.in-ProcRef.name) (λ known. ap (λ xs. out ++ xs) (sym (append-nil _))) is) c.add_reference.ensures

pub add_statement-returns-in_ok-dispatched-in-DynExec : goal.add_statement-returns-in_ok-dispatched-in-DynExec
add_statement-returns-in_ok-dispatched-in-DynExec t c =
    let out = pieces_of c.args.out.now.items in
    on_ok c.add_tree-in-DynExec.result (λ is.
    comes_statement c.args.stmt.now c.args.locals out (shown c.in-DynExec.is (view-DynExec _ Empty)) (λ tree. out ++ Whole tree ∷ [])
    (comes_dispatched c.in_ok-dispatched-in-DynExec.ensures) (λ known. refl) is) c.add_tree-in-DynExec.ensures

pub add_statement-returns-in_ok-split-in-If : goal.add_statement-returns-in_ok-split-in-If
add_statement-returns-in_ok-split-in-If t c =
    let out = pieces_of c.args.out.now.items in
    on_ok c.add_tree-in-If.result (λ is.
    comes_statement c.args.stmt.now c.args.locals out (shown c.in-If.is (view-If _ _ _ Empty)) (λ tree. out ++ Whole tree ∷ [])
    (comes_then (λ a b. trees.Split (whole as_tree a) (whole as_tree b)) (comes_body c.args.locals c.deref.ensures.value c.in_ok-on_one-in-If.ensures)
    (comes_end (comes_body c.args.locals c.deref-in-If.ensures.value c.in_ok-on_zero-in-If.ensures)))
    (λ known. refl) (is ∙ ap (λ tree. out ++ Whole tree ∷ []) c.in_ok-split-in-If.ensures)) c.add_tree-in-If.ensures

pub add_statement-returns-in_ok-repeating-in-While : goal.add_statement-returns-in_ok-repeating-in-While
add_statement-returns-in_ok-repeating-in-While t c =
    let out = pieces_of c.args.out.now.items in
    on_ok c.add_tree-in-While.result (λ is.
    comes_statement c.args.stmt.now c.args.locals out (shown c.in-While.is (view-While _ _ Empty)) (λ turn. out ++ Whole (trees.Loop (whole as_tree turn)) ∷ [])
    (comes_end (comes_body c.args.locals c.deref-in-While.ensures.value c.in_ok-list-in-While.ensures))
    (λ known. refl) (is ∙ ap (λ tree. out ++ Whole tree ∷ []) c.in_ok-repeating-in-While.ensures)) c.add_tree-in-While.ensures

pub add_statement-returns-in_ok-list-in-Repeat : goal.add_statement-returns-in_ok-list-in-Repeat
add_statement-returns-in_ok-list-in-Repeat t c =
    let out = pieces_of c.args.out.now.items in
    on_ok c.add_times.result (λ is.
    comes_statement c.args.stmt.now c.args.locals out (shown c.in-Repeat.is (view-Repeat _ _ _ Empty)) (λ turn. out ++ times c.in-Repeat.count turn)
    (comes_end (comes_body c.args.locals c.deref-in-Repeat.ensures.value c.in_ok-list-in-Repeat.ensures))
    (λ known. ap (λ xs. out ++ xs) (sym (append-nil _))) is) c.add_times.ensures

pub flatten-add_statement-requires : goal.flatten-add_statement-requires
flatten-add_statement-requires t c =
    let n = next c.args.body.now c.loop-stmt.stmt-index (omega arith) c.stmt-item.is in
    let given = (n.locals c.args.locals c.loop-stmt.invariant.locals).0 in
    let smaller : 3 * weight (stmt_view c.stmt-item.result Empty) < 3 * weight (body_of c.args.body.now) + 1 =
    omega (arith, n.weights, c.loop-stmt.invariant.light) in
    search rules

pub flatten-loop-stmt-preserved : goal.flatten-loop-stmt-preserved
flatten-loop-stmt-preserved t c =
    let s = c.stmt-item.result in
    let n = next c.args.body.now c.loop-stmt.stmt-index (omega arith) c.stmt-item.is in
    let behind = body_of (drop (c.loop-stmt.stmt-index + 1) c.args.body.now) in
    let added = c.in_ok-add_statement.ensures in
    let before = c.loop-stmt.invariant in
    record {
      gives = λ known rest serves.
          let so_far = before.gives known rest serves in
          let here = added.gives known (uses_of behind ++ rest) (subst (Serves c.args.scope.now known c.loop-stmt.table)
          (ap (λ us. us ++ rest) (ap uses_of n.split ∙ uses-first s behind) ∙ append_assoc (uses_of (stmt_view s Empty)) (uses_of behind) rest)
          so_far.1) in (
            go_on _ _ _ _ _ _ here.0
                (ap (flat_with as_tree known c.args.locals) n.split ∙ flat-first as_tree known c.args.locals s behind) so_far.0,
            here.1,
          );
      keeps = keeps_then before.keeps added.keeps;
      locals = (n.locals c.args.locals before.locals).1;
      light = omega (arith, n.weights, before.light);
    }

pub flatten-returns : goal.flatten-returns
flatten-returns t c = record {
  gives = λ known rest serves.
      let so_far = c.loop-stmt.invariant.gives known rest serves in
      let none = at_drop_all body_of c.args.body.now c.loop-stmt.stmt-index (omega arith) ∙ body_of_nil in (
        sym (append-nil _) ∙ ap (λ b. pieces_of c.loop-stmt.out.items ++ flat_with as_tree known c.args.locals b) (sym none) ∙ so_far.0,
        subst (λ b. Serves c.args.scope.now known c.loop-stmt.table (uses_of b ++ rest)) none so_far.1,
      );
  keeps = c.loop-stmt.invariant.keeps;
}

pub list_of-returns : goal.list_of-returns
list_of-returns t c =
    comes_as (λ xs. xs) c.in_ok-flatten.ensures refl
    (λ known. ap (λ xs. pieces_of xs ++ flat_with as_tree known c.args.locals (body_of c.args.body.now)) c.new-list.ensures.items) refl
