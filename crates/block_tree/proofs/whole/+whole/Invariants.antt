use Rattle.std.proofs.Common.{drop}
use Rattle.block_tree.specs.Trees.{AreWhole}
use Rattle.block_tree.specs.TreeView.{targets_of}
use Rattle.block_tree.proofs.whole.+whole.Given as goal

-- all are whole once the rest is
abbrev pub invariant-known_all-loop-tree : goal.invariant-known_all-loop-tree
invariant-known_all-loop-tree l = AreWhole (targets_of (drop l.tree-index l.trees)) → AreWhole (targets_of l.trees)
