-- By the row's flags.
use Rattle.bus_chips.proofs.HasherLemmas.{begins_permutation, begins_again, begins_hash}
use Rattle.bus_chips.proofs.TableLemmas.{as_given}
use Rattle.bus_chips.proofs.hasher.begins.Goals as goal

pub returns-then-eq : goal.returns-then-eq
returns-then-eq g c = as_given _ _ _ _ _ _ (begins_permutation _ _ _ _ c.if-eq.ensures c.mode.ensures.is c.whole.ensures) c.give.ensures

pub returns-then-eq-2 : goal.returns-then-eq-2
returns-then-eq-2 g c =
    as_given _ _ _ _ _ _ (begins_again _ _ _ _ _ c.if-eq.ensures c.mode.ensures.is c.if-eq-2.ensures c.cont.ensures.is
    c.absorbed.ensures) c.give-then-eq-2.ensures

pub returns-else-eq-2 : goal.returns-else-eq-2
returns-else-eq-2 g c =
    as_given _ _ _ _ _ _ (begins_hash _ _ _ _ _ c.if-eq.ensures c.mode.ensures.is c.if-eq-2.ensures c.cont.ensures.is
    c.first_absorbed.ensures) c.give-else-eq-2.ensures
