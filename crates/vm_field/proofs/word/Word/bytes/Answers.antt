use Rattle.std.proofs.Common.{sym, refl, ap, ◌∙◌}
use Rattle.vm_field.specs.WordText.{word_hex}
use Rattle.vm_field.proofs.HexText.{four_elements, four_writes}
use Rattle.vm_field.proofs.word.Word.bytes.Goals as goal

pub returns : goal.returns
returns c =
    four_writes c.value.result c.value-2.result c.value-3.result c.value-4.result _ _ _ _ _ (c.copy_from_slice.ensures.after ∙ c.to_be_bytes.ensures)
    (c.copy_from_slice-2.ensures.after ∙ c.to_be_bytes-2.ensures) (c.copy_from_slice-3.ensures.after ∙ c.to_be_bytes-3.ensures)
    (c.copy_from_slice-4.ensures.after ∙ c.to_be_bytes-4.ensures) refl
    ∙ ap word_hex
    (sym (four_elements c.self.inside.0 _ _ _ _ _ _ _ _ c.self.invariant c.value.ensures.is c.value-2.ensures.is
    c.value-3.ensures.is c.value-4.ensures.is) ∙ c.self.view_is)
