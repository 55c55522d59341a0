use Rattle.fill_chips.proofs.Words.{◌≡◌, ◌/◌, ◌%◌, length, ap, ◌∙◌, arith, rules}
use Rattle.std.proofs.lemmas.Grind.{get_or_default_zero}
use Rattle.fill_chips.proofs.AccessLemmas.{row-is}
use Rattle.fill_chips.proofs.memory.row_behind.Goals as goal

pub returns-clause-row : goal.returns-clause-row
returns-clause-row c =
    let word = c.args.access.word in
    let four : length word ≡ 4 = search rules in
    let step = c.step_behind-step.ensures in
    row-is c.args.before.now c.args.access (c.from_u32.ensures ∙ c.from.ensures) c.from_u32-2.ensures c.from_u32-3.ensures
    c.from_u32-4.ensures (get_or_default_zero word 0 c.index-access-0.result (omega (arith, four)))
    (get_or_default_zero word 1 c.index-access-1.result (omega (arith, four)))
    (get_or_default_zero word 2 c.index-access-2.result (omega (arith, four)))
    (get_or_default_zero word 3 c.index-access-3.result (omega (arith, four))) (c.bit_of.ensures ∙ step.context)
    (c.bit_of-2.ensures ∙ step.address) (c.from_u32-5.ensures ∙ ap (λ n. n % 65536) step.grown)
    (c.from_u32-6.ensures ∙ ap (λ n. n / 65536) step.grown) c.from_u32-7.ensures c.from_u32-8.ensures
