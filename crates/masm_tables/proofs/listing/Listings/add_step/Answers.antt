use Rattle.masm_tables.proofs.Words.{ap, ◌∙◌, as_tree, flat_with, lists_known, with_locals, pieces_of, body_of}
use Rattle.masm_tables.proofs.Put.{puts_as}
use Rattle.masm_tables.proofs.listing.Listings.add_step.Goals as goal

pub returns-clause-list : goal.returns-clause-list
returns-clause-list c =
    let a = c.args in
    let p = a.procedure.now in
    let old = a.self.now in
    let made = c.in_ok-list.ensures in
    let listed_is = made.list ∙ ap (λ ds. with_locals p.locals (flat_with as_tree (lists_known a.names.now old.table.lists.items ds
    old.dispatch a.outside.now.exports.now) p.locals (body_of p.body.items))) c.as_slice.ensures.value in
    puts_as (λ q none. tt) made.others made.count (λ is_so x is. ap pieces_of (is ∙ c.in_ok-put_digest.ensures.kept is_so) ∙ listed_is)
    c.put_list.ensures.list
