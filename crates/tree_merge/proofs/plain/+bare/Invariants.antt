use Rattle.std.proofs.Common.{◌≡◌, ◌++◌, map}
use Rattle.std.specs.Vec.Iter.{into_iter_items}
use Rattle.block_tree.specs.TreeView as view
use Rattle.block_tree.specs.TreeView.{tree_of}
use Rattle.tree_merge.specs.AddrView.{entries_of}
use Rattle.tree_merge.specs.Targets.{trees_in}
use Rattle.tree_merge.proofs.plain.+bare.Given as goal

abbrev pub invariant-bare_targets-loop-target : goal.invariant-bare_targets-loop-target
invariant-bare_targets-loop-target l = record {
  all : l.yielded ++ into_iter_items l.target-iterator ≡ l.fn.targets.items;
  bare : map tree_of (view.trees_in l.trees) ≡ trees_in (entries_of l.yielded);
}
