-- Bits that no marked operation has.
use Rattle.sound_evidence.proofs.Marks.{apart_bits, same_bits}
use Rattle.sound_evidence.proofs.decode.marked_in.Goals as goal

pub returns-then-ne : goal.returns-then-ne
returns-then-ne g c =
    apart_bits (g.V.View.cells c.args.row.now) _ _ _ c.requires c.b2.ensures.is c.b3.ensures.is c.ne.ensures c.if-ne.true

pub returns-then-eq : goal.returns-then-eq
returns-then-eq g c =
    same_bits (g.V.View.cells c.args.row.now) _ _ _ c.requires c.b4.ensures.is c.b6.ensures.is c.eq.ensures c.if-eq.true
