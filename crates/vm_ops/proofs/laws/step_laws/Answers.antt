use Rattle.vm_ops.proofs.StepLemmas.{step-clock, step-depth, step-err, step-kept, step-ok}
use Rattle.vm_ops.proofs.laws.step_laws.Goals as goal

pub returns : goal.returns
returns c = record { ok = step-ok; err = step-err; clock = step-clock; depth = step-depth; kept = step-kept }
