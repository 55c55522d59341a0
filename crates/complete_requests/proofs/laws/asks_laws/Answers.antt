use Rattle.complete_requests.proofs.AskedLaw.{run_asks}
use Rattle.complete_requests.proofs.laws.asks_laws.Goals as goal

pub returns : goal.returns
returns c = record { asks = run_asks }
