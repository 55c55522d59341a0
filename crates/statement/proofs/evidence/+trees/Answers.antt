use Rattle.std.proofs.Common.{◌≡◌, ◌++◌, length, sym, ap, ◌∙◌, append_assoc}
use Rattle.std.proofs.lemmas.Result.{on_ok_weaker}
use Rattle.block_tree.specs.Trees.{Dyn}
use Rattle.block_tree.specs.TreeView.{targets_of, tree_of}
use Rattle.block_tree.proofs.ViewLemmas.{tree-Dyn}
use Rattle.statement.specs.EvidenceText.{dyn_text, number_of, targets_text, tree_text}
use Rattle.statement.proofs.TargetLemmas.{number-of, text-Dyn}
use Rattle.statement.proofs.evidence.+trees.Goals as goal

pub append_tree-returns-in_ok-append_dyn-in-Dyn : goal.append_tree-returns-in_ok-append_dyn-in-Dyn
append_tree-returns-in_ok-append_dyn-in-Dyn t c =
    let trees = c.in-Dyn.targets.items.items in
    let seen : tree_of c.args.tree.now ≡ Dyn (targets_of trees) = ap tree_of c.in-Dyn.is ∙ tree-Dyn c.in-Dyn.targets in
    let line : c.append_dyn.new.text ≡ c.args.text.now ++ dyn_text (number_of (targets_of trees))
    = c.in_ok-append_dyn-in-Dyn.ensures
    ∙ ap (λ n. c.args.text.now ++ dyn_text n) (ap length c.as_slice-in-Dyn.ensures.is ∙ sym (number-of trees)) in
    let whole : c.args.text.now ++ (dyn_text (number_of (targets_of trees)) ++ targets_text (targets_of trees))
    ≡ c.args.text.now ++ tree_text (tree_of c.args.tree.now)
    = ap (λ text. c.args.text.now ++ text) (sym (text-Dyn (targets_of trees)))
    ∙ ap (λ tree. c.args.text.now ++ tree_text tree) (sym seen) in
    on_ok_weaker c.append_trees.result (λ is.
    is ∙ ap (λ x. x ++ targets_text (targets_of c.as_slice-in-Dyn-2.result.now)) line
    ∙ append_assoc c.args.text.now (dyn_text (number_of (targets_of trees))) (targets_text (targets_of c.as_slice-in-Dyn-2.result.now))
    ∙ ap (λ ts. c.args.text.now ++ (dyn_text (number_of (targets_of trees)) ++ targets_text (targets_of ts))) c.as_slice-in-Dyn-2.ensures.is
    ∙ whole) c.append_trees.ensures
