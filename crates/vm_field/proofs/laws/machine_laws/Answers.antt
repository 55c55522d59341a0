use Rattle.vm_field.proofs.Places.{word_at-insert_other, word_at-insert_same, words-insert}
use Rattle.vm_field.proofs.WellFormed.{start-IsWellFormed}
use Rattle.vm_field.proofs.laws.machine_laws.Goals as goal

pub returns : goal.returns
returns c = record {
  start = start-IsWellFormed;
  words = words-insert;
  written = word_at-insert_same;
  others = word_at-insert_other;
}
