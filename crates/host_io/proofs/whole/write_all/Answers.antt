use Rattle.host_io.proofs.PieceLemmas.{stops}
use Rattle.host_io.proofs.whole.write_all.Goals as goal

pub returns-in-Err-clause-front : goal.returns-in-Err-clause-front
returns-in-Err-clause-front g c =
    let front = rw c.as_slice.ensures.value at c.in-Err.ensures.front in
    stops _ _ _ _ _ _ _ front.0 c.loop-room.invariant c.next_piece.ensures.given front.1
