-- The access was given, and its limbs were asked.
use Rattle.std.proofs.Common.{[], ◌∷◌, OnOk, subst, arith, lit<}
use Rattle.air_kit.specs.ChipTuples.{memory_given, memory_ranges}
use Rattle.buses.specs.Counts.{once}
use Rattle.buses.specs.declared.bus.Bus.TheVariants as bus
use Rattle.bus_kit.specs.Adding.{IsCounted, singles}
use Rattle.bus_chips.proofs.MemoryLemmas.{memory_counted}
use Rattle.bus_kit.specs.Tallies.{values_tallied}
use Rattle.bus_kit.specs.Widths.{tallied}
use Rattle.bus_chips.proofs.memory.tuples_memory.Goals as goal

pub give-requires : goal.give-requires
give-requires g c = (lit< tt, λ u. let room = (c.requires bus.Memory u).1 in omega arith)

pub ask_values-requires-clause-room : goal.ask_values-requires-clause-room
ask_values-requires-clause-room g c = λ u. let room = (c.requires bus.Range u).0 in omega arith

pub returns : goal.returns
unfolding memory_given memory_ranges
returns g c =
    memory_counted _ _ _ _ c.args.tallies.now c.give.new.tally c.ask_values.new.tally c.ask_values.result
    (subst (λ given. IsCounted 1 (tallied c.args.tallies.now.memory) (tallied c.give.new.tally) [] given) (λ i. once (c.access_in.ensures i) ∷ []) c.in_ok-give.ensures)
    (subst (λ asked. OnOk c.ask_values.result (IsCounted 16 (values_tallied c.args.tallies.now.range) (values_tallied c.ask_values.new.tally) asked []))
    (λ i. singles (c.limbs_in.ensures i)) c.ask_values.ensures)
