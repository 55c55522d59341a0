-- The row's tuple was given.
use Rattle.std.proofs.Common.{◌^◌, [], ◌∷◌, OnOk, subst, arith, lit<}
use Rattle.air_kit.specs.ChipTuples.{range_given}
use Rattle.buses.specs.declared.bus.Bus.TheVariants as bus
use Rattle.bus_kit.specs.Adding.{IsCounted}
use Rattle.bus_chips.proofs.TableLemmas.{range_counted}
use Rattle.bus_kit.specs.Tallies.{values_tallied}
use Rattle.bus_chips.proofs.range.tuples_range.Goals as goal

pub give_times-requires : goal.give_times-requires
give_times-requires g c = (lit< tt, λ u. let room = (c.requires bus.Range u).1 in omega arith)

pub returns : goal.returns
unfolding range_given
returns g c =
    range_counted _ _ _ _ c.args.tallies.now c.give_times.new.tally c.give_times.result
    (subst (λ given. OnOk c.give_times.result (IsCounted (2 ^ 64) (values_tallied c.args.tallies.now.range) (values_tallied c.give_times.new.tally) [] given))
    (λ i. record { tuple = c.v-value.ensures.is i ∷ []; count = c.count.ensures.is i } ∷ []) c.give_times.ensures)
