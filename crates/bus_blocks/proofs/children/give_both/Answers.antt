-- One child behind the other.
use Rattle.bus_blocks.proofs.TwoLemmas.{two_given}
use Rattle.bus_blocks.proofs.children.give_both.Goals as goal

pub returns : goal.returns
returns g c = two_given _ _ _ _ _ _ _ _ c.first.ensures c.second.ensures c.in_ok-give.ensures c.give-2.ensures
