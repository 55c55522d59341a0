use Rattle.std_u64.proofs.Packing.{packable}
use Rattle.std_u64.proofs.Running.{outcomes}
use Rattle.std_u64.proofs.laws.procedure_laws.Goals as goal

pub returns : goal.returns
returns c = record { outcomes = outcomes; packable = packable }
