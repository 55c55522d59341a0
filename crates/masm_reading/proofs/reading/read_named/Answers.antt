use Rattle.std.proofs.Common.{arith, sym, ◌∙◌}
use Rattle.masm_reading.proofs.ReadingLemmas.{is_in_form_read}
use Rattle.masm_reading.proofs.reading.read_named.Goals as goal

pub new-requires : goal.new-requires
new-requires c =
    is_in_form_read c.args.consts.now c.args.name c.form-form.result c.args.parts.now c.in-Some.numbers c.as_slice.result.now
    c.form-form.ensures (omega arith) (omega arith) (sym c.in_ok-numbers.ensures ∙ c.in-Some.is) c.as_slice.ensures.items
    (sym c.are_in_range.ensures ∙ c.if-not-are_in_range.false)
