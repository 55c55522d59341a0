-- Both lists of entries, one behind the other.
use Rattle.std.proofs.Common.{ap, ◌∙◌}
use Rattle.air_kit.specs.Places.{first_fault_of}
use Rattle.air_memory.proofs.Faults.{first_of_memory}
use Rattle.air_memory.proofs.fault.first_fault.Goals as goal

pub returns : goal.returns
returns g c =
    first_of_memory _ _ _ _ (c.first_nonzero-accesses.ensures ∙ ap (first_fault_of 1) c.access_values.ensures)
    (c.first_nonzero-words.ensures ∙ ap (first_fault_of 10) c.word_values.ensures) c.or_next.ensures
