use Rattle.vm_field.proofs.DecimalText.{element_of-decimal, decimal-element_of}
use Rattle.vm_field.proofs.HexLaws.{word_of_hex-word_hex, word_hex-word_of_hex}
use Rattle.vm_field.proofs.laws.text_laws.Goals as goal

pub returns : goal.returns
returns c = record {
  decimal_read = element_of-decimal;
  decimal_written = decimal-element_of;
  word_read = word_of_hex-word_hex;
  word_written = λ text w e. (word_hex-word_of_hex text w e).0;
  word_elements = λ text w e. let read = word_hex-word_of_hex text w e in (read.1, read.2);
}
