-- By the row's flags.
use Rattle.bus_kit.proofs.AddingLemmas.{none_counted}
use Rattle.bus_chips.proofs.HasherLemmas.{ends_permutation, ends_hash, ends_nothing}
use Rattle.bus_chips.proofs.TableLemmas.{as_given}
use Rattle.bus_kit.specs.Tallies.{steps_tallied}
use Rattle.bus_chips.proofs.hasher.ends.Goals as goal

pub returns-then-eq : goal.returns-then-eq
returns-then-eq g c = as_given _ _ _ _ _ _ (ends_permutation _ _ _ _ c.if-eq.ensures c.mode.ensures.is c.whole.ensures) c.give.ensures

pub returns-then-eq-2 : goal.returns-then-eq-2
returns-then-eq-2 g c =
    as_given _ _ _ _ _ _ (ends_hash _ _ _ _ _ c.if-eq.ensures c.mode.ensures.is c.if-eq-2.ensures c.more.ensures.is
    c.digest.ensures) c.give-then-eq-2.ensures

pub returns-else-eq-2 : goal.returns-else-eq-2
returns-else-eq-2 g c =
    rw (← ends_nothing c.args.address _ _ _ c.if-eq.ensures c.mode.ensures.is c.if-eq-2.ensures c.more.ensures.is)
    (none_counted 1 (steps_tallied c.args.tally.now))
