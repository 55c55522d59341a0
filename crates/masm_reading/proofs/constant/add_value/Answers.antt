use Rattle.std.proofs.Common.{sym, ◌∙◌}
use Rattle.masm_reading.proofs.ConstantLemmas.{value_at-added}
use Rattle.masm_reading.proofs.constant.add_value.Goals as goal

pub returns-clause-ok : goal.returns-clause-ok
returns-clause-ok c = λ text.
    value_at-added c.args.values.now c.insert.new.self c.in_ok-key.key c.args.name.now text c.args.value
    c.in_ok-key.ensures.items c.in_ok-insert.ensures.updates (sym c.contains_key.ensures ∙ c.if-contains_key.false)
