use Rattle.std.proofs.Common.{◌≡◌, length, map, take, slice_index}
use Rattle.op_steps.proofs.moves.moved.Given as goal

abbrev pub invariant-loop-i : goal.invariant-loop-i
invariant-loop-i l = (length l.copies ≡ 16) × (take l.i l.copies ≡ map (slice_index l.cells) (take l.i l.sources))
