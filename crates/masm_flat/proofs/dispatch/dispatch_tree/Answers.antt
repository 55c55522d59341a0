use Rattle.masm_flat.proofs.Words.{◌≡◌, ℕ, ◌<◌, [], ◌∷◌, ◌++◌, length, get_or, Some, sym, ap, ap₂, ◌∙◌, map_more, Tree, tree_of, as_tree, whole, list_at}
use Rattle.masm_flat.proofs.Words.{pieces_of}
use Rattle.masm_flat.proofs.Served.{list_read}
use Rattle.masm_flat.proofs.dispatch.dispatch_tree.Goals as goal

pub loop-place-preserved : goal.loop-place-preserved
loop-place-preserved c =
    let lists = c.args.lists.now in
    let targets = c.args.targets.now in
    let i = c.loop-place.place-index in
    let place = get_or targets i 0 in
    let below : i < length targets = c.loop-place-test.true in
    let low : place < length lists = c.requires i 0 below in
    let list = c.index-lists-place.result in
    let f : ℕ → Tree = λ q. whole as_tree (list_at lists (Some q)) in
    let tree : tree_of c.in_ok-copied_tree.field-0 ≡ f place =
    c.in_ok-copied_tree.ensures ∙ (ap (λ xs. whole as_tree (pieces_of xs)) c.deref.ensures.value
    ∙ ap (whole as_tree) (sym (list_read lists place list low c.index-lists-place.is))) in
    c.in_ok-push.ensures.pushed ∙ (ap₂ (λ xs t. xs ++ t ∷ []) c.loop-place.invariant tree ∙ sym (map_more f targets i 0 below))
