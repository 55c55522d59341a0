-- The row's tuple was asked.
use Rattle.std.proofs.Common.{[], ◌∷◌, OnOk, subst, arith, lit<}
use Rattle.air_kit.specs.ChipTuples.{left_asked}
use Rattle.air_kit.specs.Rows.{claim_at}
use Rattle.buses.specs.Counts.{once}
use Rattle.buses.specs.declared.bus.Bus.TheVariants as bus
use Rattle.bus_kit.specs.Adding.{IsCounted}
use Rattle.bus_chips.proofs.TableLemmas.{left_counted}
use Rattle.bus_kit.specs.Widths.{tallied}
use Rattle.bus_chips.proofs.left.tuples_left.Goals as goal

pub ask-requires : goal.ask-requires
ask-requires g c = (lit< tt, λ u. let room = (c.requires bus.Overflow u).0 in omega arith)

pub returns : goal.returns
unfolding left_asked
returns g c =
    left_counted (claim_at c.args.place.now) _ _ _ c.args.tallies.now c.ask.new.tally c.ask.result
    (subst (λ asked. OnOk c.ask.result (IsCounted 1 (tallied c.args.tallies.now.overflow) (tallied c.ask.new.tally) asked []))
    (λ i. once (c.key-key.ensures.is i ∷ c.output_at-output.ensures i ∷ c.key_after-below.ensures i ∷ []) ∷ []) c.ask.ensures)
