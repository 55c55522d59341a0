-- What a run stops with.
use Rattle.std.specs.Prelude.{ℕ}
use Rattle.op_steps.specs.declared.refusal.StepStop.{StepStop}
use Rattle.op_steps.specs.declared.refusal.StepStop.TheVariants as step_stop
use Rattle.machine_cycles.specs.declared.refusal.Stop.{Stop}
use Rattle.machine_cycles.specs.declared.refusal.Stop.TheVariants.{Trap, Memory}

-- what a run stops with where a cycle does
abbrev pub stop_at : ℕ → StepStop → Stop
stop_at clock (step_stop.Trap cause) = Trap clock cause
stop_at clock step_stop.Memory = Memory
