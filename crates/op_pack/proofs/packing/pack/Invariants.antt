use Rattle.std.proofs.Common.{◌≡◌, ◌++◌, length}
use Rattle.op_pack.specs.Packing.{packed}
use Rattle.op_pack.proofs.packing.pack.Given as goal

-- the batches so far, in front of those of what is left
abbrev pub invariant-loop-rest : goal.invariant-loop-rest
invariant-loop-rest l = packed l.fn.items ≡ l.batches ++ packed l.rest

abbrev pub decreases-loop-rest : goal.decreases-loop-rest
decreases-loop-rest l = length l.rest
