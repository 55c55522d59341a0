use Rattle.std.proofs.Common.{◌≡◌, Some, slice_get, slice_index}
use Rattle.masm_instr.specs.Slots.{slot}
use Rattle.masm_instr.specs.declared.slot.TheConstants.{SLOTS}
use Rattle.masm_instr.specs.declared.table.TheConstants.{EVERY}
use Rattle.masm_instr.proofs.NameLemmas.{at_slot}
use Rattle.masm_instr.proofs.name.guess.Goals as goal

pub returns : goal.returns
returns c = λ name same.
    let here : slice_get EVERY (slice_index SLOTS (slot c.args.text.now)) ≡ Some name = at_slot name c.args.text.now same in
    let found : slice_get EVERY (slice_index SLOTS c.slot.result) ≡ Some name = rw c.slot.ensures.slot here in
    cc (found, c.name_at.ensures, c.from.ensures)
