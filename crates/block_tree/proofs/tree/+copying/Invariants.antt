use Rattle.std.proofs.Common.{◌≡◌, map, take}
use Rattle.block_tree.specs.TreeView.{tree_of}
use Rattle.block_tree.proofs.tree.+copying.Given as goal

abbrev pub invariant-copies-loop-tree : goal.invariant-copies-loop-tree
invariant-copies-loop-tree l = map tree_of l.copies.items ≡ map tree_of (take l.tree-index l.trees)
