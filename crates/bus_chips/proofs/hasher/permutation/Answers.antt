-- By the row's place in its permutation.
use Rattle.bus_kit.proofs.AddingLemmas.{none_counted}
use Rattle.bus_chips.proofs.HasherLemmas.{gives_begin, gives_end, gives_nothing}
use Rattle.bus_chips.proofs.TableLemmas.{as_given}
use Rattle.bus_kit.specs.Tallies.{steps_tallied}
use Rattle.bus_chips.proofs.hasher.permutation.Goals as goal

pub returns-then-place-eq0 : goal.returns-then-place-eq0
returns-then-place-eq0 g c = as_given _ _ _ _ _ _ (gives_begin _ _ _ c.if-place-eq0.true c.address_of-address.ensures) c.begins.ensures

pub returns-then-place-eq7 : goal.returns-then-place-eq7
returns-then-place-eq7 g c = as_given _ _ _ _ _ _ (gives_end _ _ _ c.if-place-eq7.true c.address_of-address.ensures) c.ends.ensures

pub returns-else-place-eq7 : goal.returns-else-place-eq7
returns-else-place-eq7 g c = rw (← gives_nothing c.args.i _ c.if-place-eq0.false c.if-place-eq7.false) (none_counted 1 (steps_tallied c.args.tally.now))
