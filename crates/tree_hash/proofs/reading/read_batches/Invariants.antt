use Rattle.std.proofs.Common.{◌≡◌, take}
use Rattle.tree_hash.specs.Nodes.{elements_of}
use Rattle.tree_hash.proofs.reading.read_batches.Given as goal

-- the first batches are read
abbrev pub invariant-loop-batch : goal.invariant-loop-batch
invariant-loop-batch l = elements_of l.read.items ≡ take l.batch-index l.batches
