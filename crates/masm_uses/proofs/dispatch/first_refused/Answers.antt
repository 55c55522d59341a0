use Rattle.masm_uses.proofs.Words.{◌≡◌, ◌≤◌, true, length, get_or, rules, get_or_default, Position, IsRefusedDynexec, Among-more, Among-end}
use Rattle.masm_uses.proofs.dispatch.first_refused.Goals as goal

-- what is read behind the end of a row
abbrev no_place : Position
no_place = record { line = 0; column = 0 }

pub loop-at-preserved : goal.loop-at-preserved
loop-at-preserved c =
    let row = c.args.row.now in
    let i = c.loop-at.at-index in
    rw c.earlier-first.ensures (Among-more (λ k dynexec. IsRefusedDynexec (c.args.reached ≡ true) dynexec) row i (get_or row i no_place)
    c.loop-at.first _ c.loop-at-test.true (get_or_default row i no_place (get_or row i no_place) c.loop-at-test.true)
    c.loop-at.invariant c.refused.ensures)

pub returns : goal.returns
returns c =
    let ended : length c.args.row.now ≤ c.loop-at.at-index = search rules in
    Among-end (λ k dynexec. IsRefusedDynexec (c.args.reached ≡ true) dynexec) c.args.row.now c.loop-at.at-index c.loop-at.first ended
    c.loop-at.invariant
