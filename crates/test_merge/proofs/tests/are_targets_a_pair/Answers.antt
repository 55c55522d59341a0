use Rattle.std.proofs.Common.{ap, ◌∙◌}
use Rattle.test_merge.specs.Trees.{taken_with}
use Rattle.test_merge.proofs.Hashed.{mergeable-by, taken-mergeable}
use Rattle.test_merge.proofs.tests.are_targets_a_pair.Goals as goal

pub merge-merged-requires : goal.merge-merged-requires
merge-merged-requires c =
    let a = c.in_ok-a.ensures ∙ ap taken_with c.in_ok-one.ensures in
    let b = c.in_ok-b.ensures ∙ ap taken_with c.in_ok-two.ensures in
    mergeable-by _ _ _ _ _ _ c.requires.hasher a b (taken-mergeable _ c.requires.zeros)
