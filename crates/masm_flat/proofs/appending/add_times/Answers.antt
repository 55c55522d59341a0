use Rattle.masm_flat.proofs.Words.{◌≡◌, ◌+◌, ◌-◌, ◌++◌, append_assoc, ap, sym, ◌∙◌, arith, nat_tests, nil_from_length, times, pieces_of}
use Rattle.std.proofs.Common.{append-nil}
use Rattle.masm_flat.proofs.Served.{on_ok}
use Rattle.masm_flat.proofs.Times.{times_more, times_of_none}
use Rattle.masm_flat.proofs.appending.add_times.Goals as goal
use Rattle.masm_flat.proofs.appending.add_times.Goals.{then-is_empty-via-then-is_empty, then-is_empty-via-else-is_empty+then-count-eq0}

pub returns-then-is_empty : goal.returns-then-is_empty
returns-then-is_empty c =
    let out = pieces_of c.args.out.now.items in
    elim c.then-is_empty.branch [
      | then-is_empty-via-then-is_empty w ↦ times_of_none c.args.count c.args.list.items out
          (nil_from_length c.args.list.items (let none = sym c.is_empty.ensures ∙ w.if-is_empty.true in grind (arith, nat_tests)))
      | then-is_empty-via-else-is_empty+then-count-eq0 w ↦
          let none : c.args.count ≡ 0 = omega (arith, w.if-count-eq0.true) in
          sym (append-nil out) ∙ ap (λ n. out ++ times n (pieces_of c.args.list.items)) (sym none)
    ]

pub returns : goal.returns
returns c =
    let out = pieces_of c.args.out.now.items in
    let list = pieces_of c.args.list.items in
    let n = c.args.count - 1 in
    let same : c.args.count ≡ n + 1 = omega arith in
    on_ok c.add_moved.result (λ is.
    is ∙ (ap (λ xs. xs ++ list) (c.in_ok-add_turns.ensures ∙ ap (λ xs. out ++ times n (pieces_of xs)) c.deref.ensures.value)
    ∙ (append_assoc out (times n list) list ∙ ap (λ xs. out ++ xs) (sym (times_more n list) ∙ ap (λ k. times k list) (sym same)))))
    c.add_moved.ensures
