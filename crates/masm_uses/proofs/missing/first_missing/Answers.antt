use Rattle.masm_uses.proofs.Words.{◌≤◌, length, get_or, rules, get_or_default, LeadsNowhere, Among-more, Among-end, no_link}
use Rattle.masm_uses.proofs.missing.first_missing.Goals as goal

pub loop-link-preserved : goal.loop-link-preserved
loop-link-preserved c =
    let row = c.args.row.now in
    let i = c.loop-link.link-index in
    rw c.earlier-first.ensures (Among-more (λ place link. LeadsNowhere link) row i (get_or row i no_link) c.loop-link.first _ c.loop-link-test.true
    (get_or_default row i no_link (get_or row i no_link) c.loop-link-test.true) c.loop-link.invariant c.missing.ensures)

pub returns : goal.returns
returns c =
    let ended : length c.args.row.now ≤ c.loop-link.link-index = search rules in
    Among-end (λ place link. LeadsNowhere link) c.args.row.now c.loop-link.link-index c.loop-link.first ended c.loop-link.invariant
