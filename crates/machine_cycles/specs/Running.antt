-- What the code of a part of a run answers.
use Rattle.std.specs.Prelude.{◌≡◌, List, ◌++◌, map, Result, Ok, Err}
use Rattle.block_tree.specs.Execution as run
use Rattle.block_tree.specs.Execution.{Outcome, Done}
use Rattle.vm_state.specs.Views.{state_of}
use Rattle.machine_cycles.specs.Events.{shown}
use Rattle.machine_cycles.specs.Settings.{constants_in}
use Rattle.machine_cycles.specs.declared.cycling.Runner.{Runner}
use Rattle.machine_cycles.specs.declared.event.Event.{Event}
use Rattle.machine_cycles.specs.declared.refusal.Stop.{Stop}
use Rattle.machine_cycles.specs.declared.refusal.Stop.TheVariants.{Trap, OutOfCycles, Memory}
use Rattle.machine_cycles.specs.declared.setting.Setting.{Setting}

-- that a part was done, whatever it answers
abbrev pub done_of : {A : Type 0} → Result A Stop → Result (Unit {0}) Stop
done_of (Ok answer) = Ok tt
done_of (Err stop) = Err stop

abbrev pub shown_in : Setting → run.Event → Event
shown_in setting e = shown (constants_in setting) setting.kernel.now e

-- a part that was done, and its events behind those that were logged before
pub record IsDone (setting : Setting) (outcome : Outcome) (log : List Event) (after : Runner) : Type 0 where
  pub more : List run.Event
  pub done : outcome ≡ Done (state_of after.state) more
  pub events : after.log ≡ log ++ map (shown_in setting) more

-- a part that was cut off, and its events behind those that were logged before
pub record IsCut (setting : Setting) (outcome : Outcome) (log : List Event) (after : Runner) : Type 0 where
  pub more : List run.Event
  pub cut : outcome ≡ run.OutOfCycles (state_of after.state) more
  pub events : after.log ≡ log ++ map (shown_in setting) more

abbrev pub RanAs : Setting → Outcome → List Event → Result (Unit {0}) Stop → Runner → Type 0
RanAs setting outcome log (Ok _) after = IsDone setting outcome log after
RanAs setting outcome log (Err (Trap clock cause)) after = outcome ≡ run.Trap clock cause
RanAs setting outcome log (Err OutOfCycles) after = IsCut setting outcome log after
RanAs setting outcome log (Err Memory) after = Unit {0}

-- The part came out as the call answered. Where memory was refused, nothing is said of it.
pub record Ran (setting : Setting) (outcome : Outcome) (log : List Event) (result : Result (Unit {0}) Stop) (after : Runner) : Type 0 where
  pub answer : RanAs setting outcome log result after
