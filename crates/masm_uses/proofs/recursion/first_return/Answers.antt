use Rattle.masm_uses.proofs.Words.{◌≡◌, ◌≤◌, true, false, length, get_or, slice_index_or, rules, get_or_default, IsReturn, Among-more, Among-end, no_link}
use Rattle.masm_uses.proofs.recursion.first_return.Goals as goal

pub loop-link-preserved : goal.loop-link-preserved
loop-link-preserved c =
    let row = c.args.row.now in
    let i = c.loop-link.link-index in
    rw c.earlier-first.ensures (Among-more (λ place link. IsReturn (λ q. slice_index_or c.args.marks.now q false ≡ true) link) row i
    (get_or row i no_link)
    c.loop-link.first _ c.loop-link-test.true (get_or_default row i no_link (get_or row i no_link) c.loop-link-test.true)
    c.loop-link.invariant c.returning.ensures)

pub returns : goal.returns
returns c =
    let ended : length c.args.row.now ≤ c.loop-link.link-index = search rules in
    Among-end (λ place link. IsReturn (λ q. slice_index_or c.args.marks.now q false ≡ true) link) c.args.row.now
    c.loop-link.link-index c.loop-link.first ended
    c.loop-link.invariant
