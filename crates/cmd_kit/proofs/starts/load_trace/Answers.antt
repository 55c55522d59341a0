use Rattle.cmd_kit.specs.declared.outcome.Outcome.TheVariants as outcome
use Rattle.cmd_kit.proofs.ServingLemmas.{same_again}
use Rattle.cmd_kit.proofs.starts.load_trace.Goals as goal

pub returns-in-Ok-clause-counts : goal.returns-in-Ok-clause-counts
returns-in-Ok-clause-counts g c = c.in-Ok.ensures.counts c.in_ok-load_pieces.ensures.found.0 c.in_ok-load_pieces.ensures.found.1

pub returns-in-Err-Memory-clause-ends : goal.returns-in-Err-Memory-clause-ends
returns-in-Err-Memory-clause-ends g c next = c.in_ok-load_pieces.ensures.found.2 _ outcome.Memory _ (same_again _ _)
