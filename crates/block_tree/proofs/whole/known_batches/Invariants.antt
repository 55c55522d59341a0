use Rattle.std.proofs.Common.{ℕ, ◌<◌, List, slice_index_or}
use Rattle.op_pack.specs.Reading.{IsBatch}
use Rattle.block_tree.proofs.whole.known_batches.Given as goal

abbrev pub invariant-loop-batch : goal.invariant-loop-batch
invariant-loop-batch l = (k : ℕ) (d : List ℕ) → k < l.batch-index → IsBatch (slice_index_or l.batches k d)
