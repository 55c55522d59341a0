use Rattle.cmd_kit.specs.declared.outcome.Outcome.TheVariants as outcome
use Rattle.cmd_kit.proofs.ServingLemmas.{same_again}
use Rattle.cmd_kit.proofs.starts.load_inputs.Goals as goal

pub returns-clause-ends : goal.returns-clause-ends
returns-clause-ends g c next = c.in_ok-bytes.ensures.found _ outcome.Memory _ (same_again _ _)
