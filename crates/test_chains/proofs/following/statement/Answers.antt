use Rattle.std.specs.List.{IsDistinct}
use Rattle.test_chains.proofs.following.statement.Goals as goal

-- no word stands twice in no words
pub new-requires-2-clause-distinct : goal.new-requires-2-clause-distinct
unfolding IsDistinct
new-requires-2-clause-distinct c = rw c.new.ensures.empty tt
