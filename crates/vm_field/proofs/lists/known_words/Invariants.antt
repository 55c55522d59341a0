use Rattle.std.specs.List.{AllWithin}
use Rattle.vm_field.specs.Machine.{IsWord}
use Rattle.vm_field.proofs.lists.known_words.Given as goal

abbrev pub invariant-loop-word : goal.invariant-loop-word
invariant-loop-word l = AllWithin IsWord l.words 0 l.word-index
