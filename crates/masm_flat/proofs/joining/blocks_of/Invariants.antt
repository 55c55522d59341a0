use Rattle.masm_flat.proofs.Words.{◌≡◌, [], ◌++◌, map, tree_of, as_tree, pieces_of}
use Rattle.std.specs.Vec.Iter.{into_iter_items}
use Rattle.masm_flat.specs.Blocks.{blocks_behind}
use Rattle.masm_flat.proofs.joining.blocks_of.Given as goal

abbrev pub invariant-loop-piece : goal.invariant-loop-piece
invariant-loop-piece l =
    map tree_of l.blocks.items ++ blocks_behind as_tree.span as_tree.join l.run (pieces_of (into_iter_items l.piece-iterator))
    ≡ blocks_behind as_tree.span as_tree.join [] (pieces_of l.fn.pieces.items)
