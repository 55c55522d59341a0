use Rattle.masm_flat.proofs.Words.{◌≡◌, map, vec_len, tree_of, as_tree}
use Rattle.masm_flat.specs.Blocks.{all_joined}
use Rattle.masm_flat.proofs.joining.join_levels.Given as goal

abbrev pub invariant-loop-alloc : goal.invariant-loop-alloc
invariant-loop-alloc l =
    all_joined as_tree.span as_tree.join (map tree_of l.level.items)
    ≡ all_joined as_tree.span as_tree.join (map tree_of l.fn.level.items)

abbrev pub decreases-loop-alloc : goal.decreases-loop-alloc
decreases-loop-alloc l = vec_len l.level
