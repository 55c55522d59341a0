use Rattle.std.proofs.Common.{◌≡◌, ◌++◌, drop}
use Rattle.tree_hash.specs.Nodes.{elements_of}
use Rattle.source_check.proofs.numbering.with_batches.Given as goal

-- the batches still to come belong behind the others
abbrev pub invariant-loop-batch : goal.invariant-loop-batch
invariant-loop-batch l = l.all ++ elements_of (drop l.batch-index l.rest) ≡ l.fn.all ++ elements_of l.rest
