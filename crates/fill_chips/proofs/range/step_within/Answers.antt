use Rattle.fill_chips.proofs.Words.{sym, ◌∙◌, arith, allowed_steps}
use Rattle.fill_chips.proofs.StepLemmas.{step-found, step-passed, step-past}
use Rattle.fill_chips.proofs.range.step_within.Goals as goal

pub returns-then-step-distance : goal.returns-then-step-distance
returns-then-step-distance c =
    sym (step-found allowed_steps c.loop-step.step-index c.args.distance c.loop-step-test.true c.if-step-distance.true) ∙ c.loop-step.invariant

pub loop-step-preserved : goal.loop-step-preserved
loop-step-preserved c =
    sym (step-passed allowed_steps c.loop-step.step-index c.args.distance c.loop-step-test.true c.if-step-distance.false) ∙ c.loop-step.invariant

pub returns : goal.returns
returns c = sym (step-past allowed_steps c.loop-step.step-index c.args.distance (omega arith)) ∙ c.loop-step.invariant
