-- What a run within a limit of cycles leaves.
use Rattle.std.specs.Prelude.{◌≡◌, ℕ, Bool, if◌then◌else◌, List, ◌++◌, map, Result, Ok, Err}
use Rattle.rpo_hash.specs.Constants.{constants_of}
use Rattle.rpo_hash.specs.declared.params.Params.{Params}
use Rattle.block_tree.specs.Execution as run
use Rattle.block_tree.specs.Execution.{Done, Outcome}
use Rattle.block_tree.specs.Trees.{tree_digest}
use Rattle.block_tree.specs.TreeView.{tree_of}
use Rattle.block_tree.specs.declared.program.Program.{Program}
use Rattle.vm_state.specs.Views.{state_of}
use Rattle.vm_state.specs.declared.inputs.Inputs.{Inputs}
use Rattle.machine_cycles.specs.Running.{shown_in}
use Rattle.machine_cycles.specs.declared.cycling.Runner.{Runner}
use Rattle.machine_cycles.specs.declared.event.Event.{Event}
use Rattle.machine_cycles.specs.declared.refusal.Stop.{Stop}
use Rattle.machine_cycles.specs.declared.refusal.Stop.TheVariants.{Trap, OutOfCycles, Memory}
use Rattle.machine_cycles.specs.declared.setting.Setting.{Setting}
use Rattle.processor.specs.Advanced.{Advances, IsProgressOf}
use Rattle.processor.specs.declared.ended.Ended.{Ended}

-- a part that was done, or else was cut off, and its events behind those that were logged before
pub record HasCome (setting : Setting) (outcome : Outcome) (log : List Event) (is_done : Bool) (after : Runner) : Type 0 where
  pub more : List run.Event
  pub came : outcome ≡ (if is_done then Done (state_of after.state) more else run.OutOfCycles (state_of after.state) more)
  pub events : after.log ≡ log ++ map (shown_in setting) more

abbrev pub CameTo : Setting → Outcome → List Event → Result Bool Stop → Runner → Type 0
CameTo setting outcome log (Ok is_done) after = HasCome setting outcome log is_done after
CameTo setting outcome log (Err (Trap clock cause)) after = outcome ≡ run.Trap clock cause
CameTo setting outcome log (Err OutOfCycles) after = ⊥
CameTo setting outcome log (Err Memory) after = Unit {0}

-- how far the run comes, the digest of its tree, and permutations under its constants
pub record IsEndedOf (params : Params) (program : Program) (inputs : Inputs) (limit : ℕ) (e : Ended) : Type 0 where
  pub progress : IsProgressOf params program inputs limit e.progress
  pub digest : e.digest ≡ tree_digest (constants_of params) (tree_of program.tree)
  pub permutations : e.permutations ≡ constants_of params

abbrev pub Ends : Result Ended Stop → Params → Program → Inputs → ℕ → Type 0
Ends (Ok e) params program inputs limit = IsEndedOf params program inputs limit e
Ends (Err stop) params program inputs limit = Advances (Err stop) params program inputs limit
