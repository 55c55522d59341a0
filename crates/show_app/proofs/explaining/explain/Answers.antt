use Rattle.show_app.proofs.ExplainLemmas.{faulty_ends}
use Rattle.show_app.proofs.explaining.explain.Goals as goal

pub returns-in-Some : goal.returns-in-Some
returns-in-Some g c = λ s. faulty_ends c.args.public c.args.trace _ s c.in-Some.fault c.in-Some.ensures.exact c.explain_fault.ensures
