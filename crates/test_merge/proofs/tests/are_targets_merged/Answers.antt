use Rattle.test_merge.proofs.Hashed.{mergeable-by, dynamics-mergeable}
use Rattle.test_merge.proofs.tests.are_targets_merged.Goals as goal

pub merge-requires : goal.merge-requires
merge-requires c = mergeable-by _ _ _ _ _ _ c.requires.hasher c.in_ok-a.ensures c.in_ok-b.ensures (dynamics-mergeable _ c.requires.zeros)
