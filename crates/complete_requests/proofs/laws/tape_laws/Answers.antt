use Rattle.complete_requests.proofs.TapeLaw.{run_takes}
use Rattle.complete_requests.proofs.laws.tape_laws.Goals as goal

pub returns : goal.returns
returns c = record { takes = run_takes }
