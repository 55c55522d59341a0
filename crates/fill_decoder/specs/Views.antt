-- The decoder of the code as that of the definition.
use Rattle.std.specs.Prelude.{ℕ, ◌+◌}
use Rattle.vm_ops.specs.Moves.{shift_of}
use Rattle.vm_ops.specs.declared.op.Op.TheVariants as ops
use Rattle.air_kit.specs.Flags.{is_op}
use Rattle.machine_cycles.specs.declared.event.Event.{Event}
use Rattle.complete_rows.specs.Decoder as rows
use Rattle.complete_rows.specs.Decoder.{called, closed, keys_after, next_after, opened, popped}
use Rattle.complete_rows.specs.Groups as groups
use Rattle.complete_rows.specs.Groups.{batch_begun, taken_from}
use Rattle.vm_ops.specs.declared.kind.Kind.TheVariants as kinds
use Rattle.vm_ops.specs.declared.kind.Kind.{Kind}
use Rattle.fill_decoder.specs.declared.decoder.Decoder.{Decoder}

abbrev pub unread_in : Decoder → groups.Unread
unread_in d = record { number = d.number; place = d.place; positions = d.positions }

abbrev pub decoder_in : Decoder → rows.Decoder
decoder_in d = record { blocks = d.blocks; next = d.next; ha = d.ha; unread = unread_in d; keys = d.keys }

-- behind an event of a kind, before so many later batches of its span
abbrev pub advance_as : Kind → rows.Decoder → Event → ℕ → rows.Decoder
advance_as kinds.Ordinary d e batches = record d {
  next = next_after e.op d.next;
  unread = taken_from (is_op e.op ops.Push) d.unread;
  keys = keys_after (shift_of e.op) e.before.clock d.keys;
}
advance_as kinds.Join d e batches = opened 1 d
advance_as kinds.Split d e batches = popped (opened 1 d)
advance_as kinds.Loop d e batches = popped (opened 1 d)
advance_as kinds.Span d e batches = record (opened (batches + 1) d) { ha = d.next; unread = batch_begun e.hash }
advance_as kinds.Call d e batches = called d
advance_as kinds.Syscall d e batches = called d
advance_as kinds.Dyn d e batches = opened 1 d
advance_as kinds.End d e batches = closed e.hash d
advance_as kinds.Repeat d e batches = popped d
advance_as kinds.Respan d e batches = record d { ha = d.ha + 8; unread = batch_begun e.hash }
advance_as kinds.Halt d e batches = d
