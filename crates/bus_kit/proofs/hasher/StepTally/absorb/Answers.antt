-- Width by width.
use Rattle.std.proofs.Common.{lit<, lit≤}
use Rattle.bus_kit.proofs.SumLemmas.{fit_here, steps_summed}
use Rattle.bus_kit.proofs.WidthLemmas.{at_six, at_ten, at_eleven, at_fourteen}
use Rattle.bus_kit.proofs.hasher.StepTally.absorb.Goals as goal

pub absorb-requires : goal.absorb-requires
absorb-requires c = (
  lit< tt,
  (lit≤ tt, λ u e. fit_here _ _ _ _ (at_six c.args.self.now u e) (at_six c.args.other.now u e) (c.requires u)),
)

pub absorb-requires-2 : goal.absorb-requires-2
absorb-requires-2 c = (
  lit< tt,
  (lit≤ tt, λ u e. fit_here _ _ _ _ (at_ten c.args.self.now u e) (at_ten c.args.other.now u e) (c.requires u)),
)

pub absorb-requires-3 : goal.absorb-requires-3
absorb-requires-3 c = (
  lit< tt,
  (lit≤ tt, λ u e. fit_here _ _ _ _ (at_eleven c.args.self.now u e) (at_eleven c.args.other.now u e) (c.requires u)),
)

pub absorb-requires-4 : goal.absorb-requires-4
absorb-requires-4 c = (
  lit< tt,
  (lit≤ tt, λ u e. fit_here _ _ _ _ (at_fourteen c.args.self.now u e) (at_fourteen c.args.other.now u e) (c.requires u)),
)

pub returns : goal.returns
returns c =
    steps_summed c.args.self.now c.args.other.now _ c.absorb-4.result c.in_ok-absorb.ensures.ok c.in_ok-absorb-2.ensures.ok
    c.in_ok-absorb-3.ensures.ok c.absorb-4.ensures.ok
