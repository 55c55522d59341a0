use Rattle.merkle_lib.proofs.Law.{run-path}
use Rattle.merkle_lib.proofs.laws.walk_laws.Goals as goal

pub returns : goal.returns
returns c = record { path = run-path }
