use Rattle.fill_chips.proofs.Words.{◌+◌, unwrap_or, ap, ◌∙◌, arith}
use Rattle.std.proofs.lemmas.Grind.{common_steps}
use Rattle.fill_chips.proofs.TimesLemmas.{calls-few, calls-more}
use Rattle.fill_chips.proofs.kernel.times_of.Goals as goal

pub overflow_add-times : goal.overflow_add-times
overflow_add-times c =
    let word = c.word-item.result in
    let had = c.or_insert.ensures.value ∙ ap (λ o. unwrap_or o 0) c.in_ok-times.ensures.value ∙ c.loop-word.invariant word in
    let few = calls-few c.args.calls.now c.loop-word.word-index word in
    omega (arith, had, few)

pub loop-word-preserved : goal.loop-word-preserved
loop-word-preserved c = λ u.
    let word = c.word-item.result in
    let had = c.or_insert.ensures.value ∙ ap (λ o. unwrap_or o 0) c.in_ok-times.ensures.value ∙ c.loop-word.invariant word in
    let put = (c.in_ok-times.ensures.update.0 (c.or_insert.result.now + 1)).0 u in
    let now =
    calls-more c.args.calls.now c.loop-word.word-index word u _ _ c.or_insert.result.now c.loop-word-test.true c.word-item.is
    put had (c.loop-word.invariant u) in
    grind (arith, common_steps)
