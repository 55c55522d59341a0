use Rattle.std.proofs.Common.{arith, length}
use Rattle.block_tree.proofs.AlongLemmas.{log-counts, log-nested, steps-nesting, steps-reached, steps-shallow}
use Rattle.block_tree.proofs.RunSteps.{run-steps}
use Rattle.block_tree.proofs.TaskLemmas.{steps-log, steps-whole}
use Rattle.block_tree.proofs.laws.log_laws.Goals as goal

pub returns : goal.returns
returns c = record {
  logged = λ constants kernel limit tree s t events w e. steps-log constants kernel limit (run-steps constants kernel limit tree s t events w e);
  counts = λ constants kernel limit s t events log. log-counts constants kernel limit log;
  whole = λ constants kernel limit tree s t events len w h e.
      steps-whole constants kernel limit len (run-steps constants kernel limit tree s t events w e) (w, tt) h;
  shallow = λ constants kernel limit tree s t events len w h e.
      steps-shallow constants kernel limit len s.core.clock (length s.core.stack) (run-steps constants kernel limit tree s t events w e)
      (omega arith, (w, tt), h);
  nests = λ constants kernel limit tree s t events w h e.
      let steps = run-steps constants kernel limit tree s t events w e in (
        (log-nested constants kernel limit (steps-log constants kernel limit steps) h).0,
        steps-nesting constants kernel limit steps s.core.nesting (omega arith),
      );
  contexts = λ constants kernel limit tree s t events w h e.
      steps-reached constants kernel limit (run-steps constants kernel limit tree s t events w e) (h, (tt, tt));
}
