use Rattle.masm_flat.proofs.Words.{◌≡◌, ◌++◌, take, pieces_of}
use Rattle.masm_flat.proofs.appending.add_copies.Given as goal

abbrev pub invariant-loop-piece : goal.invariant-loop-piece
invariant-loop-piece l = pieces_of l.out.items ≡ pieces_of l.fn.out.items ++ pieces_of (take l.piece-index l.list)
