use Rattle.std.proofs.Common.{All, true, false, [], subst}
use Rattle.std.proofs.lemmas.List.Elements.{All-head}
use Rattle.vm_ops.specs.declared.op.Op.{Op}
use Rattle.machine_cycles.specs.declared.event.Visible.{Visible}
use Rattle.complete_rows.specs.Limbs.{cell}
use Rattle.complete_rows.specs.Numbers.{HasU32Operands}
use Rattle.complete_rows.specs.RunRequests.{bits_by}
use Rattle.fill_requests.proofs.bits.push_bits.Goals as goal

pub bit_op-requires : goal.bit_op-requires
bit_op-requires c =
    let seen : Visible = c.args.event.now.before in
    All-head HasU32Operands (record { xor = false; a = cell seen 0; b = cell seen 1 }) []
    (subst (λ (op : Op). All HasU32Operands (bits_by op seen)) c.in-U32And.is c.requires)

pub bit_op-requires-in-U32Xor : goal.bit_op-requires-in-U32Xor
bit_op-requires-in-U32Xor c =
    let seen : Visible = c.args.event.now.before in
    All-head HasU32Operands (record { xor = true; a = cell seen 0; b = cell seen 1 }) []
    (subst (λ (op : Op). All HasU32Operands (bits_by op seen)) c.in-U32Xor.is c.requires)
