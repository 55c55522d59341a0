use Rattle.std.proofs.Common.{◌≡◌, drop}
use Rattle.block_tree.specs.Cycles.{Respan}
use Rattle.tree_hash.specs.Nodes.{elements_of}
use Rattle.processor.specs.Parts.{batches_in}
use Rattle.processor.proofs.RunLemmas.{Left}
use Rattle.processor.proofs.blocks.later_batches.Given as goal

abbrev pub invariant-loop-batch : goal.invariant-loop-batch
invariant-loop-batch l = record {
  ran : Left l.setting (batches_in l.setting Respan (elements_of l.batches))
      (batches_in l.setting Respan (elements_of (drop l.batch-index l.batches))) l.fn.runner l.runner;
  same : l.runner.permutations ≡ l.fn.runner.permutations;
}
