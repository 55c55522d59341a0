-- Small elements by place, others by map.
use Rattle.std.proofs.Common.{lit<, lit≤}
use Rattle.bus_kit.specs.Tallies.{values_tallied}
use Rattle.bus_kit.specs.Widths.{tallied}
use Rattle.bus_kit.proofs.SumLemmas.{small_fits, great_fits, if_summed}
use Rattle.bus_kit.proofs.values.ValueTally.absorb.Goals as goal

pub absorb_places-requires-clause-fits : goal.absorb_places-requires-clause-fits
unfolding values_tallied
absorb_places-requires-clause-fits c =
    rw c.as_slice.ensures.value
    (small_fits c.args.self.now.small.items c.args.other.now.small.items (tallied c.args.self.now.great) (tallied c.args.other.now.great)
    c.args.self.now.few c.args.other.now.few c.requires)

pub absorb-requires : goal.absorb-requires
unfolding values_tallied
absorb-requires c = (
  lit< tt,
  (
    lit≤ tt,
    great_fits c.args.self.now.small.items c.args.other.now.small.items (tallied c.args.self.now.great) (tallied c.args.other.now.great)
        c.args.self.now.none_is_small c.args.other.now.none_is_small c.requires,
  ),
)

pub returns : goal.returns
unfolding values_tallied
returns c =
    if_summed c.args.self.now.small.items c.args.other.now.small.items c.absorb_places.new.small.items (tallied c.args.self.now.great)
    (tallied c.args.other.now.great) (tallied c.absorb.new.self) c.absorb.result
    (rw c.as_slice.ensures.value at c.in_ok-absorb_places.ensures.sums) c.absorb.ensures.ok
