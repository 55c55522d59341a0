use Rattle.vm_ops.proofs.RunLemmas.{run-append, run-kept}
use Rattle.vm_ops.proofs.laws.run_laws.Goals as goal

pub returns : goal.returns
returns c = record { append = run-append; kept = run-kept }
