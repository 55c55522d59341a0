-- Each call goes down the tree.
use Rattle.std.proofs.Common.{◌+◌, ◌*◌, ◌++◌, [], length, map, max}
use Rattle.rpo_hash.specs.Constants.{constants_of}
use Rattle.block_tree.specs.Trees.{tree_height, targets_height}
use Rattle.tree_hash.specs.Nodes.{node_tree, targets_of}
use Rattle.tree_merge.specs.AddrView.{entries_of}
use Rattle.source_check.specs.Numbering.{numbered_in}
use Rattle.source_check.specs.SourceNodes.{inputs_in, shown_block}
use Rattle.source_check.proofs.TargetLemmas.{HasBlocks, HasEntries}
use Rattle.source_check.proofs.numbering.+numbering.Given as goal

abbrev pub invariant-numbered_targets-loop-place : goal.invariant-numbered_targets-loop-place
invariant-numbered_targets-loop-place l = record {
  targets : HasEntries (constants_of l.params) l.nodes l.place (l.rows + length l.blocks.items + 1) (entries_of l.targets.items)
      (numbered_in (constants_of l.params) (l.rows + length l.fn.blocks.items + 1) [] (targets_of l.nodes));
  blocks : HasBlocks (constants_of l.params) l.nodes l.place l.blocks.items
      (l.fn.blocks.items ++ map shown_block (inputs_in (constants_of l.params) (targets_of l.nodes)));
}

abbrev pub decreases-numbered_tree : goal.decreases-numbered_tree
decreases-numbered_tree l = 3 * tree_height (node_tree l.node.now)

abbrev pub decreases-two : goal.decreases-two
decreases-two l = 3 * max (tree_height (node_tree l.a.now)) (tree_height (node_tree l.b.now)) + 1

abbrev pub decreases-one : goal.decreases-one
decreases-one l = 3 * tree_height (node_tree l.a.now) + 1

abbrev pub decreases-numbered_targets : goal.decreases-numbered_targets
decreases-numbered_targets l = 3 * targets_height (targets_of l.nodes.now) + 1
