-- Bus by bus.
use Rattle.std.proofs.Common.{lit<, lit≤}
use Rattle.buses.specs.declared.bus.Bus.TheVariants as bus
use Rattle.bus_kit.proofs.SumLemmas.{buses_summed}
use Rattle.bus_kit.proofs.tallies.Tallies.absorb.Goals as goal

pub absorb-requires : goal.absorb-requires
absorb-requires c = (lit< tt, (lit≤ tt, λ u e. c.requires bus.Blocks u))

pub absorb-requires-2 : goal.absorb-requires-2
absorb-requires-2 c = (lit< tt, (lit≤ tt, λ u e. c.requires bus.Children u))

pub absorb-requires-3 : goal.absorb-requires-3
absorb-requires-3 c = (lit< tt, (lit≤ tt, λ u e. c.requires bus.Loops u))

pub absorb-requires-4 : goal.absorb-requires-4
absorb-requires-4 c = (lit< tt, (lit≤ tt, λ u e. c.requires bus.Groups u))

pub absorb-requires-5 : goal.absorb-requires-5
absorb-requires-5 c = (lit< tt, (lit≤ tt, λ u e. c.requires bus.Overflow u))

pub absorb-requires-6 : goal.absorb-requires-6
absorb-requires-6 c = c.requires bus.Hasher

pub absorb-requires-7 : goal.absorb-requires-7
absorb-requires-7 c = (lit< tt, (lit≤ tt, λ u e. c.requires bus.Bitwise u))

pub absorb-requires-8 : goal.absorb-requires-8
absorb-requires-8 c = (lit< tt, (lit≤ tt, λ u e. c.requires bus.Memory u))

pub absorb-requires-9 : goal.absorb-requires-9
absorb-requires-9 c = λ u e. c.requires bus.Range u

pub absorb-requires-10 : goal.absorb-requires-10
absorb-requires-10 c = (lit< tt, (lit≤ tt, λ u e. c.requires bus.Kernel u))

pub returns : goal.returns
returns c =
    buses_summed c.args.self.now c.args.other _ c.absorb-10.result
    c.in_ok-absorb.ensures.ok c.in_ok-absorb-2.ensures.ok c.in_ok-absorb-3.ensures.ok c.in_ok-absorb-4.ensures.ok c.in_ok-absorb-5.ensures.ok
    c.in_ok-absorb-6.ensures c.in_ok-absorb-7.ensures.ok c.in_ok-absorb-8.ensures.ok c.in_ok-absorb-9.ensures c.absorb-10.ensures.ok
