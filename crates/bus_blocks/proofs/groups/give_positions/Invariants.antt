use Rattle.bus_blocks.proofs.GroupLemmas.{AreGivenBelow}
use Rattle.bus_kit.specs.Widths.{tallied}
use Rattle.bus_blocks.proofs.groups.give_positions.Given as goal

abbrev pub invariant-loop-q : goal.invariant-loop-q
invariant-loop-q g l = AreGivenBelow (g.V.View.cells l.x) (g.V.View.cells l.y) l.count l.q (tallied l.fn.tally) (tallied l.tally)
