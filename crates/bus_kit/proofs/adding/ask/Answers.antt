-- The tuple was counted.
use Rattle.std.proofs.Common.{lit≤, arith}
use Rattle.buses.specs.Counts.{once}
use Rattle.bus_kit.proofs.AddingLemmas.{added_asked}
use Rattle.bus_kit.proofs.adding.ask.Goals as goal

pub add-requires : goal.add-requires
add-requires g c = let room = c.requires.room c.args.tuple.now in omega arith

pub returns : goal.returns
returns g c = added_asked 1 (g.T.Count.both c.args.tally.now) (g.T.Count.both c.add.new.self) (once c.args.tuple.now) c.add.result (lit≤ tt) c.add.ensures
