use Rattle.std.proofs.Common.{◌+◌, ◌*◌, length}
use Rattle.op_pack.proofs.packing.+placing.Given as goal

-- each operation and each free position is taken once
abbrev pub decreases-place : goal.decreases-place
decreases-place l = 2 * length l.items.now + length l.positions.now

abbrev pub decreases-put : goal.decreases-put
decreases-put l = 2 * length l.later.now + length l.positions.now + 1
