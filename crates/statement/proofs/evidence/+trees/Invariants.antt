use Rattle.std.proofs.Common.{◌≡◌, ◌++◌, drop}
use Rattle.block_tree.specs.TreeView.{targets_of}
use Rattle.statement.specs.EvidenceText.{targets_text}
use Rattle.statement.proofs.evidence.+trees.Given as goal

abbrev pub invariant-append_trees-loop-tree : goal.invariant-append_trees-loop-tree
invariant-append_trees-loop-tree l =
    l.text ++ targets_text (targets_of (drop l.tree-index l.trees)) ≡ l.fn.text ++ targets_text (targets_of l.trees)
