use Rattle.vm_ops.proofs.ShownLemmas.{computed-shown, trap_of-shown}
use Rattle.vm_ops.proofs.Sizing.{length-left_cells}
use Rattle.vm_ops.proofs.ValueLemmas.{elements-left_cells}
use Rattle.vm_ops.proofs.laws.value_laws.Goals as goal

pub returns : goal.returns
returns c = record { left = length-left_cells; elements = elements-left_cells; shown = computed-shown; trap_shown = trap_of-shown }
