use Rattle.tree_merge.proofs.RunLemmas.{refined-run, run-tape, opaque-no_run}
use Rattle.tree_merge.proofs.laws.run_laws.Goals as goal

pub returns : goal.returns
returns c = record { refined = refined-run; tape = run-tape; known = opaque-no_run }
