use Rattle.std.specs.Option.{option_map}
use Rattle.std.proofs.Common.{◌≡◌, ℕ, ◌+◌, ◌-◌, ◌*◌, ◌≤◌, max}
use Rattle.block_tree.specs.Trees.{targets_height, tree_height}
use Rattle.tree_hash.specs.Nodes.{node_tree, targets_of}
use Rattle.processor.proofs.BlockLemmas.{TurnsLeft, option_height}
use Rattle.processor.proofs.blocks.+blocks.Given as goal

abbrev pub decreases-block : goal.decreases-block
decreases-block l = 3 * tree_height (node_tree l.node.now)

abbrev pub decreases-join : goal.decreases-join
decreases-join l = 3 * max (tree_height (node_tree l.first.now)) (tree_height (node_tree l.second.now)) + 1

abbrev pub decreases-split : goal.decreases-split
decreases-split l = 3 * max (tree_height (node_tree l.on_one.now)) (tree_height (node_tree l.on_zero.now)) + 2

abbrev pub decreases-branch : goal.decreases-branch
decreases-branch l = 3 * max (tree_height (node_tree l.on_one.now)) (tree_height (node_tree l.on_zero.now)) + 1

abbrev pub decreases-repeated : goal.decreases-repeated
decreases-repeated l = 3 * tree_height (node_tree l.body.now) + 2

abbrev pub decreases-turns : goal.decreases-turns
decreases-turns l = 3 * tree_height (node_tree l.body.now) + 1

abbrev pub decreases-call : goal.decreases-call
decreases-call l = 3 * tree_height (node_tree l.callee.now) + 1

abbrev pub decreases-syscall : goal.decreases-syscall
decreases-syscall l = 3 * tree_height (node_tree l.callee.now) + 1

abbrev pub decreases-dynamic : goal.decreases-dynamic
decreases-dynamic l = 3 * targets_height (targets_of l.targets.now) + 2

abbrev pub decreases-chosen : goal.decreases-chosen
decreases-chosen l = 3 * option_height (option_map (λ node. node_tree node.now) l.found) + 1

abbrev pub invariant-turns-loop-runner : goal.invariant-turns-loop-runner
invariant-turns-loop-runner l = record {
  ran : (n : ℕ) → l.setting.limit ≤ n + l.fn.runner.state.clock → TurnsLeft l.setting l.digest (node_tree l.body) n l.fn.runner l.runner;
  same : l.runner.permutations ≡ l.fn.runner.permutations;
}

abbrev pub decreases-turns-loop-runner : goal.decreases-turns-loop-runner
decreases-turns-loop-runner l = l.setting.limit - l.runner.state.clock
