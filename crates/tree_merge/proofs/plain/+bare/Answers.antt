use Rattle.std.proofs.Common.{ap, sym, ◌∙◌}
use Rattle.block_tree.specs.Trees as blocks
use Rattle.block_tree.specs.Trees.{targets_from}
use Rattle.tree_merge.specs.AddrView.{placed_of}
use Rattle.tree_merge.specs.Placed.{plain}
use Rattle.tree_merge.proofs.ViewLemmas.{placed-Dyn, plain-targets}
use Rattle.tree_merge.proofs.plain.+bare.Goals as goal

pub into_tree-returns-in_ok-bare_targets-in-Dyn : goal.into_tree-returns-in_ok-bare_targets-in-Dyn
into_tree-returns-in_ok-bare_targets-in-Dyn t c =
    let seen = ap plain (ap placed_of c.in-Dyn.is ∙ placed-Dyn _ _) ∙ ap blocks.Dyn (plain-targets _) in
    record { same = c.dynamic.ensures.is ∙ ap (λ ts. blocks.Dyn (targets_from ts)) c.in_ok-bare_targets-in-Dyn.ensures.same ∙ sym seen }
