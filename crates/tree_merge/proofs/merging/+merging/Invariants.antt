-- Each call goes down both trees, and the second one's height falls; the first one's may not, since targets are put into it.
use Rattle.std.proofs.Common.{◌≡◌, ℕ, ◌+◌, ◌*◌, ◌++◌, max}
use Rattle.std.specs.Vec.Iter.{into_iter_items}
use Rattle.block_tree.specs.Trees.{tree_height, targets_height, targets_from}
use Rattle.tree_merge.specs.AddrView.{placed_of, entries_of}
use Rattle.tree_merge.specs.Placed.{plain}
use Rattle.tree_merge.specs.Targets.{digests_in, trees_in}
use Rattle.tree_merge.specs.Merges.{AreTargetsMerged}
use Rattle.tree_merge.specs.Sides.{AreTargetsApart, AreAboveUnless}
use Rattle.tree_merge.proofs.merging.+merging.Given as goal

abbrev pub invariant-merge_targets-loop-target : goal.invariant-merge_targets-loop-target
invariant-merge_targets-loop-target g l = record {
  all : l.yielded ++ into_iter_items l.target-iterator ≡ l.fn.b.items;
  merged : AreTargetsMerged l.params (g.H.Hashes.hashed_at l.hashes) l.fn.a.items l.yielded l.merged.items;
  above : (bound : ℕ) → AreTargetsApart bound l.fn.a.items l.fn.b.items → AreAboveUnless bound (digests_in (entries_of l.yielded)) l.merged.items;
}

abbrev pub decreases-merge_in : goal.decreases-merge_in
decreases-merge_in g l = 5 * tree_height (plain (placed_of l.b)) + 1

abbrev pub decreases-of_one_kind : goal.decreases-of_one_kind
decreases-of_one_kind g l = 5 * tree_height (plain (placed_of l.b))

abbrev pub decreases-two : goal.decreases-two
decreases-two g l = 5 * max (tree_height (plain (placed_of l.c.value))) (tree_height (plain (placed_of l.d.value))) + 3

abbrev pub decreases-one : goal.decreases-one
decreases-one g l = 5 * tree_height (plain (placed_of l.c.value)) + 3

abbrev pub decreases-boxed : goal.decreases-boxed
decreases-boxed g l = 5 * tree_height (plain (placed_of l.b.value)) + 2

abbrev pub decreases-merge_targets : goal.decreases-merge_targets
decreases-merge_targets g l = 5 * targets_height (targets_from (trees_in (entries_of l.b.items))) + 4

abbrev pub decreases-add_target : goal.decreases-add_target
decreases-add_target g l = 5 * tree_height (plain (placed_of l.target.tree)) + 3

abbrev pub decreases-merge_at : goal.decreases-merge_at
decreases-merge_at g l = 5 * tree_height (plain (placed_of l.target.tree)) + 2
