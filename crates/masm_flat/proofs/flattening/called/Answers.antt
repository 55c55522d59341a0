use Rattle.masm_flat.proofs.Words.{◌++◌, refl, ap, ◌∙◌, ◌≡◌, tree_of, as_tree, whole, pieces_of}
use Rattle.block_tree.specs.Trees.{Call}
use Rattle.masm_flat.proofs.Served.{comes_as}
use Rattle.masm_flat.proofs.flattening.called.Goals as goal

pub returns : goal.returns
returns c = λ at.
    let list = c.add_used.new.out.items in
    let built : Call (tree_of c.in_ok-new.field-0.value) ≡ Call (whole as_tree (pieces_of list)) =
    ap (λ t. Call (tree_of t)) c.in_ok-new.ensures.ok ∙ ap Call c.in_ok-tree_of_list.ensures in
    comes_as (λ pieces. Call (whole as_tree pieces)) (c.in_ok-add_used.ensures at) refl
    (λ known. ap (λ xs. Call (whole as_tree (pieces_of xs ++ known.list c.args.name.now))) c.new-list.ensures.items) built
