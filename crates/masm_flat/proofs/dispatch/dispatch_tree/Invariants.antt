use Rattle.masm_flat.proofs.Words.{◌≡◌, map, take, Some, tree_of, trees_in, as_tree, whole, list_at}
use Rattle.masm_flat.proofs.dispatch.dispatch_tree.Given as goal

abbrev pub invariant-loop-place : goal.invariant-loop-place
invariant-loop-place l =
    map tree_of (trees_in l.trees) ≡ map (λ place. whole as_tree (list_at l.lists (Some place))) (take l.place-index l.targets)
