use Rattle.std.proofs.Common.{ap, ◌∙◌, ◌++◌, List, ◌∷◌, [], ℕ}
use Rattle.merkle_lib.proofs.Cuts.{level_joined}
use Rattle.merkle_lib.proofs.programs.level.Goals as goal

pub returns : goal.returns
returns c =
    level_joined _ _ _ _ _ _ _ _ _ _ _ c.new-items.ensures.empty c.new.ensures.empty c.new-2.ensures.empty
    (c.in_ok-push.ensures.ok ∙ ap (λ (ns : List ℕ). ns ++ 1 ∷ []) c.new-one.ensures.empty) c.new-3.ensures.empty c.new-4.ensures.empty
    c.in_ok-add.ensures c.in_ok-add-2.ensures c.in_ok-add-3.ensures c.in_ok-add-4.ensures c.in_ok-add-5.ensures
