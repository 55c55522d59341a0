use Rattle.fill_chips.proofs.Words.{◌≡◌, drop, allowed_steps, step_within}
use Rattle.fill_chips.proofs.range.step_within.Given as goal

abbrev pub invariant-loop-step : goal.invariant-loop-step
invariant-loop-step l = step_within (drop l.step-index allowed_steps) l.distance ≡ step_within allowed_steps l.distance
