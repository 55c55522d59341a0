use Rattle.masm_flat.proofs.Words.{◌≡◌, ◌++◌, times, pieces_of}
use Rattle.masm_flat.proofs.appending.add_turns.Given as goal

abbrev pub invariant-loop-turn : goal.invariant-loop-turn
invariant-loop-turn l = pieces_of l.out.items ≡ pieces_of l.fn.out.items ++ times l._turn (pieces_of l.list)
