use Rattle.complete_requests.proofs.FitLaw.{run_fits}
use Rattle.complete_requests.proofs.laws.fit_laws.Goals as goal

pub returns : goal.returns
returns c = record { fits = run_fits }
