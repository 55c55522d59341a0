use Rattle.masm_uses.proofs.Words.{[], take, MarksRow}
use Rattle.masm_uses.proofs.planning.mark_all.Given as goal

abbrev pub invariant-loop-place : goal.invariant-loop-place
invariant-loop-place l = MarksRow l.fn.marks.items (take l.place-index l.row) l.marks.items []
