use Rattle.std.specs.List.{IsDistinct}
use Rattle.test_air.proofs.tests.public.Goals as goal

-- no word stands twice in no words
pub new-statement-requires-clause-distinct : goal.new-statement-requires-clause-distinct
unfolding IsDistinct
new-statement-requires-clause-distinct c = rw c.new.ensures.empty tt
