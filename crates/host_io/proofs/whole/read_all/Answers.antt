use Rattle.std.proofs.Common.{ℕ, List, ◌+◌, ◌++◌, take, subst, arith}
use Rattle.std.proofs.lemmas.List.{length-append, length-take, take-append-le}
use Rattle.host_io.proofs.TakerLemmas.{consumed_further, taken_further}
use Rattle.host_io.proofs.whole.read_all.Goals as goal

pub returns-then-left-count-clause-too_long : goal.returns-then-left-count-clause-too_long
returns-then-left-count-clause-too_long g c = λ _.
    let so_far = c.loop-count.invariant in
    let sum = so_far.1 in
    let piece = take c.in-Ok.count c.read.new.buf in (
      so_far.0 ++ piece,
      omega (
        arith,
        sum,
        length-append so_far.0 piece,
        c.in-Ok.ensures.bound.0,
        c.in-Ok.ensures.bound.1,
        c.if-left-count.true,
        c.min.ensures,
        c.read.auto.buf,
        length-take (c.min.result + 1) c.loop-count.piece,
      ),
      consumed_further _ _ _ so_far.0 piece so_far.3 c.in-Ok.ensures.bytes.0,
    )

pub loop-count-preserved : goal.loop-count-preserved
loop-count-preserved g c =
    taken_further (g.T.Taker.took c.loop-count.taker) (g.T.Taker.took c.take_piece.new.self) _ _ _ _ _ c.in-Ok.count
    (take c.in-Ok.count c.read.new.buf) c.loop-count.invariant
    c.in-Ok.ensures.bound.1 c.if-left-count.false
    (λ before took. subst (λ (piece : List ℕ). g.T.Taker.took c.take_piece.new.self (before ++ piece))
    (take-append-le c.in-Ok.count c.read.new.buf _ c.in-Ok.ensures.bound.0) (c.take_piece.ensures.taken before took))
    c.in-Ok.ensures.bytes.0
