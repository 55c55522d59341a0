-- A dynamic block has as many targets as its list has trees.
use Rattle.std.proofs.Common.{◌≡◌, ◌++◌, List, [], ◌∷◌, length, refl, arith}
use Rattle.block_tree.specs.Trees.{Targets, Dyn}
use Rattle.block_tree.specs.TreeView.{targets_of}
use Rattle.block_tree.specs.declared.tree.Tree.{Tree}
use Rattle.statement.specs.EvidenceText.{dyn_text, number_of, targets_text, tree_text}

pub number-of : (trees : List Tree) → number_of (targets_of trees) ≡ length trees
number-of [] = refl
number-of (tree ∷ trees) = let e = number-of trees in omega (arith, e)

pub text-Dyn : (targets : Targets) → tree_text (Dyn targets) ≡ dyn_text (number_of targets) ++ targets_text targets
text-Dyn targets = refl

pub ruleset counts = (number-of)
