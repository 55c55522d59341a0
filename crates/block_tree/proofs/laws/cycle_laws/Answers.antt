use Rattle.std.proofs.Common.{◌∙◌, ap, sym}
use Rattle.block_tree.proofs.BehindLemmas.{allowed-cycle, behind-cycle, fine}
use Rattle.block_tree.proofs.RunSteps.{run-steps, steps-run}
use Rattle.block_tree.proofs.laws.cycle_laws.Goals as goal

pub returns : goal.returns
returns c = record {
  allowed = λ constants kernel mark advice c d. (
    λ e. behind-cycle constants kernel mark advice c d e,
    λ h. allowed-cycle constants kernel mark advice c h.0 ∙ ap fine (sym h.1),
  );
  steps = run-steps;
  runs = steps-run;
}
