use Rattle.show_app.proofs.ExplainLemmas.{accepted_ends, no_fault, otherwise_ends}
use Rattle.show_app.proofs.explaining.explain_buses.Goals as goal

pub returns-in-None : goal.returns-in-None
returns-in-None g c = λ s. accepted_ends c.args.public.now c.args.trace.now _ s c.in-None.ensures c.accepted.ensures

pub explain_refused-requires-clause-other : goal.explain_refused-requires-clause-other
explain_refused-requires-clause-other g c = no_fault c.args.public.now c.args.trace.now c.in-Some.refused c.requires.zero c.in-Some.ensures

pub returns-in-Some : goal.returns-in-Some
returns-in-Some g c =
    λ s. otherwise_ends c.args.public.now c.args.trace.now _ s c.in-Some.refused c.in-Some.ensures
    (no_fault c.args.public.now c.args.trace.now c.in-Some.refused c.requires.zero c.in-Some.ensures)
    c.explain_refused.ensures.memory c.explain_refused.ensures.says
