use Rattle.test_merge.proofs.Hashed.{mergeable-by, spans-mergeable}
use Rattle.test_merge.proofs.tests.are_a_pair.Goals as goal

pub merge-merged-requires : goal.merge-merged-requires
merge-merged-requires c = mergeable-by _ _ _ _ _ _ c.requires.hasher c.in_ok-a.ensures c.in_ok-b.ensures (spans-mergeable _ c.requires.zeros)
