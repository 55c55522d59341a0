-- Lists of operations and trees in memory as the definitions see them.
use Rattle.std.specs.Prelude.{List, Some, None, map}
use Rattle.block_tree.specs.Trees as trees
use Rattle.block_tree.specs.TreeView.{tree_of}
use Rattle.masm_flat.specs.Blocks as blocks
use Rattle.masm_flat.specs.declared.piece.Piece.{Piece}
use Rattle.masm_flat.specs.declared.piece.Piece.TheVariants as pieces

abbrev pub piece_of : Piece → blocks.Piece trees.Tree
piece_of (pieces.Plain op) = blocks.Operation (record { op = op; imm = None })
piece_of (pieces.Valued op imm) = blocks.Operation (record { op = op; imm = Some imm })
piece_of (pieces.Whole tree) = blocks.Whole (tree_of tree.value)

abbrev pub pieces_of : List Piece → List (blocks.Piece trees.Tree)
pieces_of pieces = map piece_of pieces
