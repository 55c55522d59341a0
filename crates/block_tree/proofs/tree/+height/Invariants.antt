use Rattle.std.proofs.Common.{◌≡◌, ◌≤◌, ◌-◌, ◌^◌, min, max, drop}
use Rattle.block_tree.specs.Trees.{targets_height}
use Rattle.block_tree.specs.TreeView.{targets_of}
use Rattle.block_tree.proofs.tree.+height.Given as goal

abbrev pub invariant-highest-loop-tree : goal.invariant-highest-loop-tree
invariant-highest-loop-tree l = record {
  so_far :
      min (max l.most (targets_height (targets_of (drop l.tree-index l.trees)))) (2 ^ 64 - 1)
      ≡ min (targets_height (targets_of l.trees)) (2 ^ 64 - 1);
  small : l.most ≤ 2 ^ 64 - 1;
}
