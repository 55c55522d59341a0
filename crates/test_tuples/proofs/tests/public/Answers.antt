use Rattle.std.specs.List.{IsDistinct}
use Rattle.test_tuples.proofs.tests.public.Goals as goal

-- no digest stands twice in no digests
pub new-requires-3-clause-distinct : goal.new-requires-3-clause-distinct
unfolding IsDistinct
new-requires-3-clause-distinct c = rw c.new.ensures.empty tt
