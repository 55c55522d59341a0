use Rattle.masm_uses.proofs.Words.{◌<◌, length, get_or, refl, sym, subst}
use Rattle.masm_uses.proofs.PlanLemmas.{row_more}
use Rattle.masm_uses.proofs.planning.mark_all.Goals as goal

pub loop-place-preserved : goal.loop-place-preserved
loop-place-preserved c =
    let row = c.args.row.now in
    let i = c.loop-place.place-index in
    let mid = c.loop-place.marks.items in
    let below = c.loop-place-test.true in
    let within : get_or row i 0 < length mid = subst (λ n. get_or row i 0 < n) (sym c.loop-place.invariant.count) (c.requires i 0 below) in
    row_more c.args.marks.now.items mid row i (get_or row i 0) below refl c.loop-place.invariant within
