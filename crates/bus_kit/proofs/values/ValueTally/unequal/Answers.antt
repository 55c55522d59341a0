use Rattle.std.proofs.Common.{length, subst}
use Rattle.bus_kit.specs.Singles.{AreAlikeBelow}
use Rattle.bus_kit.specs.Tallies.{values_tallied}
use Rattle.bus_kit.specs.Widths.{tallied}
use Rattle.bus_kit.proofs.SingleLemmas.{singles_answer}
use Rattle.bus_kit.proofs.values.ValueTally.unequal.Goals as goal

pub returns-in_default : goal.returns-in_default
unfolding values_tallied
returns-in_default c =
    singles_answer c.args.self.now.small.items (tallied c.args.self.now.great) c.unequal.result
    (subst (λ small. AreAlikeBelow small (length small)) c.deref.ensures.value c.in_default.ensures)
    c.args.self.now.none_is_small c.unequal.ensures.least c.unequal.ensures.width
