-- A loop that is not entered has no child.
use Rattle.bus_kit.proofs.AddingLemmas.{none_counted}
use Rattle.bus_kit.specs.Widths.{tallied}
use Rattle.bus_blocks.proofs.children.give_entered.Goals as goal

pub returns-else-eq : goal.returns-else-eq
returns-else-eq g c = rw (← c.s0.ensures.is, ← c.if-eq.ensures) (none_counted 1 (tallied c.args.tally.now))
