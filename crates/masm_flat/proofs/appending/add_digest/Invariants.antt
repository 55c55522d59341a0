use Rattle.masm_flat.proofs.Words.{◌≡◌, ◌++◌, map, take, Operation, digest_items, pieces_of}
use Rattle.masm_flat.proofs.appending.add_digest.Given as goal

abbrev pub invariant-loop-element : goal.invariant-loop-element
invariant-loop-element l = pieces_of l.out.items ≡ pieces_of l.fn.out.items ++ map Operation (digest_items (take l.element-index l.digest))
