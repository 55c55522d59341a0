use Rattle.std.proofs.Common.{◌≡◌}
use Rattle.std.specs.List.{All}
use Rattle.op_pack.specs.Digits.{left_of, size_of, after_items}
use Rattle.op_pack.specs.Reading.{reading}
use Rattle.vm_ops.specs.Items.{IsOrdinaryItem}
use Rattle.op_pack.proofs.reading.unpack.Given as goal

abbrev pub invariant-loop-item : goal.invariant-loop-item
invariant-loop-item l = record { is : reading l.fn.batch ≡ after_items l.items (left_of l.unread); ordinary : All IsOrdinaryItem l.items }

abbrev pub decreases-loop-item : goal.decreases-loop-item
decreases-loop-item l = size_of l.unread
