use Rattle.std.proofs.Common.{◌≡◌, drop}
use Rattle.processor.specs.Parts.{operations_in}
use Rattle.processor.proofs.RunLemmas.{Left}
use Rattle.processor.proofs.blocks.all_operations.Given as goal

abbrev pub invariant-loop-item : goal.invariant-loop-item
invariant-loop-item l = record {
  ran : Left l.setting (operations_in l.setting l.items) (operations_in l.setting (drop l.item-index l.items)) l.fn.runner l.runner;
  same : l.runner.permutations ≡ l.fn.runner.permutations;
}
