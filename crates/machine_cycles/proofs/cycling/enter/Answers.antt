use Rattle.std.proofs.Common.{refl}
use Rattle.machine_cycles.proofs.CycleLemmas.{ran-kept}
use Rattle.machine_cycles.proofs.cycling.enter.Goals as goal

pub returns-in-Ok-clause-ran : goal.returns-in-Ok-clause-ran
returns-in-Ok-clause-ran c = ran-kept refl refl c.in-Ok.ensures.ran
