use Rattle.std.proofs.Common.{arith}
use Rattle.std.proofs.lemmas.List.{take_rest}
use Rattle.merkle_lib.proofs.Cuts.{more_enough, more_steps}
use Rattle.merkle_lib.proofs.paths.steps_on.Goals as goal

pub loop-preserved : goal.loop-preserved
loop-preserved c = record {
  steps = more_steps c.loop.path c.push.new.self _ c.loop.rest.now _ c.first_step.result c.args.depth c.loop.counter (omega arith)
      c.first_step.ensures c.in_ok-push.ensures.ok (take_rest c.loop.rest.now 5) c.loop.invariant.steps;
  enough = more_enough c.loop.rest.now c.args.depth c.loop.counter (omega arith) c.loop.invariant.enough;
}
