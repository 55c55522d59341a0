use Rattle.facts_main.proofs.ClaimFacts.{claim_low, trace_shown}
use Rattle.facts_main.proofs.laws.trace_laws.Goals as goal

pub returns : goal.returns
returns c = record { claim = claim_low; rows = trace_shown }
