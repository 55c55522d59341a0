-- A dynamic block in memory is seen as its list's trees.
use Rattle.std.proofs.Common.{◌≡◌, refl, ap, ◌∙◌}
use mathlib.Core.Former.{Count}
use Rattle.block_tree.specs.Trees as blocks
use Rattle.block_tree.specs.declared.tree.Tree.{Tree, Row_of-Tree, end_of-Tree, more_of-Tree, items-the_row-Tree, items_hidden-the_row-Tree-0}
use Rattle.block_tree.specs.declared.tree.Tree.TheVariants.{Dyn, Dyn'}
use Rattle.block_tree.specs.declared.tree.Trees.{Trees}
use Rattle.block_tree.specs.TreeView.{tree_of, row_targets, targets_of, trees_in}

row-items : (n : Count) (row : Row_of-Tree n) → row_targets row ≡ targets_of (items-the_row-Tree n row)
row-items n end_of-Tree = refl
row-items n (more_of-Tree first more) = ap (blocks.target (tree_of first)) (row-items _ more)

-- the row of a dynamic block, which is not inferred
abbrev row_of : Tree → (n : Count) × Row_of-Tree n
row_of (Dyn' shape row) = (_, row)
row_of _ = (_, end_of-Tree)

pub tree-Dyn : (trees : Trees) → tree_of (Dyn trees) ≡ blocks.Dyn (targets_of (trees_in trees))
tree-Dyn trees =
    let row = row_of (Dyn trees) in
    ap blocks.Dyn (row-items row.0 row.1 ∙ ap targets_of (items_hidden-the_row-Tree-0 trees.items))

pub ruleset views = (tree-Dyn)
