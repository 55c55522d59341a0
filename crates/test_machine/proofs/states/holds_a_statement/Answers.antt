use Rattle.std.specs.List.{IsDistinct}
use Rattle.test_machine.proofs.states.holds_a_statement.Goals as goal

-- no word stands twice in no words
pub new-statement-requires-clause-distinct : goal.new-statement-requires-clause-distinct
unfolding IsDistinct
new-statement-requires-clause-distinct g c = rw c.new.ensures.empty tt
