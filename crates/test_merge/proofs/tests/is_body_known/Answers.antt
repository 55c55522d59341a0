use Rattle.test_merge.proofs.Hashed.{mergeable-by, loops-mergeable}
use Rattle.test_merge.proofs.tests.is_body_known.Goals as goal

pub merge-requires : goal.merge-requires
merge-requires c = mergeable-by _ _ _ _ _ _ c.requires.hasher c.in_ok-a.ensures c.in_ok-b.ensures (loops-mergeable _ c.requires.zeros)
