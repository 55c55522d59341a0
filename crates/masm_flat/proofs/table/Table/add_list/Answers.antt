use Rattle.masm_flat.proofs.Words.{◌<◌, ◌++◌, length, get_or, Some, inl, inr, sym, ap, ◌∙◌, arith, false≢true, eqb_tells, length-set, list_at, pieces_of}
use Rattle.std.proofs.Common.{append-nil}
use Rattle.std.specs.Prelude.{slice_get}
use Rattle.masm_flat.proofs.Served.{on_ok, got_other, list_read, list_past}
use Rattle.masm_flat.proofs.table.Table.add_list.Goals as goal

pub returns-then-place-len-clause-pieces : goal.returns-then-place-len-clause-pieces
returns-then-place-len-clause-pieces c =
    let lists = c.args.self.now.lists.items in
    let same = ap (λ v. length v.items) c.is_last-is_last.ensures.lists in
    sym (append-nil _) ∙ ap (λ xs. pieces_of c.args.out.now.items ++ xs) (sym (list_past lists c.args.place (omega (arith, c.len.ensures))))

pub returns-then-not-is_last-clause-pieces : goal.returns-then-not-is_last-clause-pieces
returns-then-not-is_last-clause-pieces c =
    let same = c.is_last-is_last.ensures.lists in
    let lists = c.is_last-is_last.new.self.lists.items in
    let low : c.args.place < length lists = omega (arith, c.len.ensures) in
    on_ok c.add_copies.result (λ is.
    is ∙ ap (λ xs. pieces_of c.args.out.now.items ++ xs) (ap pieces_of c.deref.ensures.value
    ∙ (sym (list_read lists c.args.place c.index.result.now low c.index.ensures) ∙ ap (λ v. list_at v.items (Some c.args.place)) same)))
    c.add_copies.ensures

pub returns-clause-pieces : goal.returns-clause-pieces
returns-clause-pieces c =
    let same = c.is_last-is_last.ensures.lists in
    let lists = c.is_last-is_last.new.self.lists.items in
    let low : c.args.place < length lists = omega (arith, c.len.ensures) in
    on_ok c.add_moved.result (λ is.
    is ∙ ap (λ xs. pieces_of c.args.out.now.items ++ xs) (ap (λ v. pieces_of v.items) c.replace-list.ensures.value
    ∙ (sym (list_read lists c.args.place c.index_mut.result.now low c.index_mut.ensures.value) ∙ ap (λ v. list_at v.items (Some c.args.place)) same)))
    c.add_moved.ensures

pub returns-clause-taken : goal.returns-clause-taken
returns-clause-taken c =
    let place = c.args.place in
    let same = c.is_last-is_last.ensures.lists in
    let lists = c.is_last-is_last.new.self.lists.items in
    on_ok c.add_moved.result (λ is. record {
      left = c.is_last-is_last.ensures.left;
      others = λ q apart. got_other lists place q c.replace-list.new.dest apart ∙ ap (λ v. slice_get v.items q) same;
      stays = λ more. elim (eqb_tells (get_or c.args.self.now.left.items place 0) 1) [
        | inl one ↦ absurd (more one.1)
        | inr apart ↦ absurd (false≢true (sym apart.0 ∙ (sym c.is_last-is_last.ensures.last ∙ c.if-not-is_last.false)))
      ];
      count = length-set lists place c.replace-list.new.dest ∙ ap (λ v. length v.items) same;
    }) c.add_moved.ensures
