use Rattle.masm_flat.proofs.Words.{◌≡◌, ◌++◌, map, tree_of, as_tree}
use Rattle.std.specs.Vec.Iter.{into_iter_items, into_iter_len}
use Rattle.masm_flat.specs.Blocks.{paired}
use Rattle.masm_flat.proofs.joining.pairs.Given as goal

abbrev pub invariant-loop-next : goal.invariant-loop-next
invariant-loop-next l =
    map tree_of l.next.items ++ paired as_tree.span as_tree.join (map tree_of (into_iter_items l.behind))
    ≡ paired as_tree.span as_tree.join (map tree_of l.fn.level.items)

abbrev pub decreases-loop-next : goal.decreases-loop-next
decreases-loop-next l = into_iter_len l.behind
