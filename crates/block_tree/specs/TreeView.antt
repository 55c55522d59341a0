-- What a tree in memory is as a tree of blocks.
use Rattle.std.specs.Prelude.{List, map}
use Rattle.block_tree.specs.Trees as blocks
use Rattle.block_tree.specs.declared.tree.Tree.{Tree, Row_of-Tree, end_of-Tree, more_of-Tree}
use Rattle.block_tree.specs.declared.tree.Tree.TheVariants.{Opaque, Span, Join', Split', Loop', Call', Syscall', Dyn'}
use Rattle.block_tree.specs.declared.tree.Trees.{Trees}

abbrev mutual
  pub tree_of : Tree → blocks.Tree
  tree_of (Opaque digest) = blocks.Opaque digest
  tree_of (Span batches) = blocks.Span batches
  tree_of (Join' p first q second) = blocks.Join (tree_of first) (tree_of second)
  tree_of (Split' p on_one q on_zero) = blocks.Split (tree_of on_one) (tree_of on_zero)
  tree_of (Loop' p body) = blocks.Loop (tree_of body)
  tree_of (Call' p callee) = blocks.Call (tree_of callee)
  tree_of (Syscall' p callee) = blocks.Syscall (tree_of callee)
  tree_of (Dyn' shape row) = blocks.Dyn (row_targets row)

  pub row_targets : {n : _} → Row_of-Tree n → blocks.Targets
  row_targets end_of-Tree = blocks.no_target
  row_targets (more_of-Tree first more) = blocks.target (tree_of first) (row_targets more)

-- trees in memory, as targets
abbrev pub targets_of : List Tree → blocks.Targets
targets_of trees = blocks.targets_from (map tree_of trees)

-- the trees of a list
abbrev pub trees_in : Trees → List Tree
trees_in trees = trees.items.items
