use Rattle.std.specs.List.{IsDistinct}
use Rattle.test_chips.proofs.lookup.statement.Goals as goal

-- no word stands twice in one word
pub new-statement-requires-clause-distinct : goal.new-statement-requires-clause-distinct
unfolding IsDistinct
new-statement-requires-clause-distinct c = rw c.in_ok-kernel.ensures.items (tt, tt)
