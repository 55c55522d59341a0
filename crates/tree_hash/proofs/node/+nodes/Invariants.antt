use Rattle.std.proofs.Common.{◌≡◌, map, take, All}
use Rattle.block_tree.specs.TreeView.{tree_of}
use Rattle.tree_hash.specs.Nodes.{IsHashed, node_tree}
use Rattle.tree_hash.proofs.node.+nodes.Given as goal

abbrev pub invariant-nodes_of-loop-tree : goal.invariant-nodes_of-loop-tree
invariant-nodes_of-loop-tree l = record {
  hashed : All (IsHashed l.fn.digests.permutations) l.nodes.items;
  tree : map node_tree l.nodes.items ≡ map tree_of (take l.tree-index l.trees);
  permutations : l.digests.permutations ≡ l.fn.digests.permutations;
}
