use Rattle.masm_flat.proofs.Words.{◌≡◌, ◌++◌, map, take, Operation, pieces_of}
use Rattle.masm_flat.proofs.appending.add_items.Given as goal

abbrev pub invariant-loop-item : goal.invariant-loop-item
invariant-loop-item l = pieces_of l.out.items ≡ pieces_of l.fn.out.items ++ map Operation (take l.item-index l.items)
