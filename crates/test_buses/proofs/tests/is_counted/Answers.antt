-- No tuple was counted yet, so that there is room.
use Rattle.std.proofs.Common.{lit<}
use Rattle.test_buses.proofs.tests.is_counted.Goals as goal

pub count-done-requires : goal.count-done-requires
count-done-requires c = λ bus u. rw (c.new-tallies.ensures bus u) (lit< tt, lit< tt)
