use Rattle.std.proofs.Common.{sym, ap, ◌∙◌}
use Rattle.vm_field.proofs.HexText.{element_decoded, element_refused}
use Rattle.vm_field.specs.Field.{element_from}
use Rattle.vm_field.proofs.word.element_from_hex.Goals as goal

pub returns-in_err-ok : goal.returns-in_err-ok
returns-in_err-ok c =
    c.from_residual.ensures
    ∙ sym (element_refused c.args.digits.now _ _ c.requires c.decode_to_slice.ensures.value (sym c.ok.ensures.value ∙ c.in_err-ok.was))

pub returns : goal.returns
returns c =
    c.ok-2.ensures.value ∙ c.try_from_u64.ensures.element
    ∙ sym (element_decoded c.args.digits.now _ _ _ c.requires c.decode_to_slice.auto.out c.decode_to_slice.ensures.value
    (sym c.ok.ensures.value ∙ c.in_ok-ok.was) ∙ ap element_from (sym c.from_be_bytes.ensures))
