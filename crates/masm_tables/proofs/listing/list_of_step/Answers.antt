use Rattle.masm_tables.proofs.Words.{[], length, slice_get, ap, ◌∙◌, Tree, as_tree, Known, flat_with, lists_known, with_locals, uses_of, body_of}
use Rattle.masm_tables.proofs.Taken.{counted_in, none_left, serves_start, none_end}
use Rattle.masm_tables.proofs.listing.list_of_step.Goals as goal

pub returns-clause-list : goal.returns-clause-list
returns-clause-list c =
    let scope = c.args.scope.now in
    let p = c.args.procedure.now in
    let mid = c.expect.new.self in
    let counted = counted_in c.args.table.now mid c.deref.result.now c.args.step.now.ended.items c.expect.ensures.count c.deref.ensures.value
    c.expect.ensures.left in
    let known : Known Tree = lists_known scope.names.now mid.lists.items scope.digests.now scope.dispatch.now scope.outside.now.exports.now in
    let serves = serves_start mid c.args.step.now.ended.items counted scope (uses_of (body_of p.body.items)) c.requires.ended in
    let gives = c.in_ok-list.ensures.gives known [] serves in
    gives.0 ∙ ap (λ lists. with_locals p.locals (flat_with as_tree (lists_known scope.names.now lists.items scope.digests.now
    scope.dispatch.now scope.outside.now.exports.now) p.locals (body_of p.body.items))) c.expect.ensures.lists

pub returns-clause-others : goal.returns-clause-others
returns-clause-others c = λ q none.
    let mid = c.expect.new.self in
    let counted = counted_in c.args.table.now mid c.deref.result.now c.args.step.now.ended.items c.expect.ensures.count c.deref.ensures.value
    c.expect.ensures.left in
    c.in_ok-list.ensures.keeps.lists q (none_left mid c.args.step.now.ended.items counted q none)
    ∙ ap (λ v. slice_get v.items q) c.expect.ensures.lists

pub returns-clause-none : goal.returns-clause-none
returns-clause-none c = λ q.
    let scope = c.args.scope.now in
    let p = c.args.procedure.now in
    let mid = c.expect.new.self in
    let counted = counted_in c.args.table.now mid c.deref.result.now c.args.step.now.ended.items c.expect.ensures.count c.deref.ensures.value
    c.expect.ensures.left in
    let known : Known Tree = lists_known scope.names.now mid.lists.items scope.digests.now scope.dispatch.now scope.outside.now.exports.now in
    let serves = serves_start mid c.args.step.now.ended.items counted scope (uses_of (body_of p.body.items)) c.requires.ended in
    none_end scope known c.list_of_procedure.new.table (c.in_ok-list.ensures.gives known [] serves).1 q

pub returns-clause-count : goal.returns-clause-count
returns-clause-count c = c.in_ok-list.ensures.keeps.count ∙ ap (λ v. length v.items) c.expect.ensures.lists
