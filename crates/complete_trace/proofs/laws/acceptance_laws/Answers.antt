use Rattle.complete_trace.proofs.AcceptedLaw.{run_accepted}
use Rattle.complete_trace.proofs.laws.acceptance_laws.Goals as goal

pub returns : goal.returns
returns c = record { accepted = run_accepted }
