-- The tuple was counted.
use Rattle.std.proofs.Common.{lit≤, arith}
use Rattle.buses.specs.Counts.{once}
use Rattle.bus_kit.proofs.AddingLemmas.{added_given}
use Rattle.bus_kit.proofs.adding.give.Goals as goal

pub add-requires : goal.add-requires
add-requires g c = let room = c.requires.room c.args.tuple.now in omega arith

pub returns : goal.returns
returns g c = added_given 1 (g.T.Count.both c.args.tally.now) (g.T.Count.both c.add.new.self) (once c.args.tuple.now) c.add.result (lit≤ tt) c.add.ensures
