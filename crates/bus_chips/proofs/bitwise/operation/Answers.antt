-- By the row's place of the eight.
use Rattle.bus_kit.proofs.AddingLemmas.{none_counted}
use Rattle.bus_chips.proofs.BitwiseLemmas.{four_cells, gives_last, gives_none}
use Rattle.bus_chips.proofs.TableLemmas.{as_given}
use Rattle.bus_kit.specs.Widths.{tallied}
use Rattle.bus_chips.proofs.bitwise.operation.Goals as goal

pub returns-then-place-eq7 : goal.returns-then-place-eq7
returns-then-place-eq7 g c =
    as_given _ _ _ _ _ _
    (gives_last c.args.i (g.V.View.cells c.args.row.now) _ c.if-place-eq7.true
    (four_cells _ _ _ _ (g.V.View.cells c.args.row.now) c.op.ensures.is c.a.ensures.is c.b.ensures.is c.z.ensures.is)) c.give.ensures

pub returns-else-place-eq7 : goal.returns-else-place-eq7
returns-else-place-eq7 g c = rw (← gives_none c.args.i _ c.if-place-eq7.false) (none_counted 1 (tallied c.args.tally.now))
