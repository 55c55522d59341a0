use Rattle.std.proofs.Common.{arith}
use Rattle.std.proofs.lemmas.List.{at_drop_all}
use Rattle.block_tree.specs.Trees.{targets_height}
use Rattle.block_tree.specs.TreeView.{targets_of}
use Rattle.block_tree.proofs.tree.+height.Goals as goal

pub highest-returns : goal.highest-returns
highest-returns t c =
    let none = at_drop_all (λ ts. targets_height (targets_of ts)) c.args.trees.now c.loop-tree.tree-index (omega arith) in
    omega (arith, none, c.loop-tree.invariant.so_far, c.loop-tree.invariant.small)
