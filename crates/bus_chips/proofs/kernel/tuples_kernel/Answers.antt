-- The row's tuple was given.
use Rattle.std.proofs.Common.{◌^◌, [], ◌∷◌, OnOk, subst, arith, lit<}
use Rattle.air_kit.specs.ChipTuples.{kernel_given}
use Rattle.buses.specs.declared.bus.Bus.TheVariants as bus
use Rattle.bus_kit.specs.Adding.{IsCounted}
use Rattle.bus_chips.proofs.TableLemmas.{kernel_counted}
use Rattle.bus_kit.specs.Widths.{tallied}
use Rattle.bus_chips.proofs.kernel.tuples_kernel.Goals as goal

pub give_times-requires : goal.give_times-requires
give_times-requires g c = (lit< tt, λ u. let room = (c.requires bus.Kernel u).1 in omega arith)

pub returns : goal.returns
unfolding kernel_given
returns g c =
    kernel_counted _ _ _ _ c.args.tallies.now c.give_times.new.tally c.give_times.result
    (subst (λ given. OnOk c.give_times.result (IsCounted (2 ^ 64) (tallied c.args.tallies.now.kernel) (tallied c.give_times.new.tally) [] given))
    (λ i. record {
      tuple = c.d0.ensures.is i ∷ c.d1.ensures.is i ∷ c.d2.ensures.is i ∷ c.d3.ensures.is i ∷ [];
      count = c.count.ensures.is i;
    } ∷ []) c.give_times.ensures)
