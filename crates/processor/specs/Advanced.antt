-- What `advance` answers.
use Rattle.std.specs.Prelude.{◌≡◌, ℕ, if◌then◌else◌, List, map, Result, Ok, Err}
use Rattle.rpo_hash.specs.Constants.{constants_of}
use Rattle.rpo_hash.specs.declared.params.Params.{Params}
use Rattle.block_tree.specs.Execution as run
use Rattle.block_tree.specs.Execution.{Done}
use Rattle.block_tree.specs.declared.program.Program.{Program}
use Rattle.vm_state.specs.Views.{state_of}
use Rattle.vm_state.specs.declared.inputs.Inputs.{Inputs}
use Rattle.machine_cycles.specs.Events.{shown}
use Rattle.machine_cycles.specs.declared.refusal.Stop.{Stop}
use Rattle.machine_cycles.specs.declared.refusal.Stop.TheVariants.{Trap, OutOfCycles, Memory}
use Rattle.processor.specs.Executed.{outcome_of}
use Rattle.processor.specs.declared.progress.Progress.{Progress}

-- How far a run comes within a limit of cycles: it is done, or else the limit cuts it off. Of either, the state there and an event
-- for each cycle before.
pub record IsProgressOf (params : Params) (program : Program) (inputs : Inputs) (limit : ℕ) (p : Progress) : Type 0 where
  pub log : List run.Event
  pub outcome : outcome_of params program inputs limit
      ≡ (if p.is_done then Done (state_of p.state) log else run.OutOfCycles (state_of p.state) log)
  pub events : p.events ≡ map (shown (constants_of params) program.kernel) log

-- An answer is how far the run comes, or the trap with its clock, as the definition has it, or the want of memory.
abbrev pub Advances : Result Progress Stop → Params → Program → Inputs → ℕ → Type 0
Advances (Ok p) params program inputs limit = IsProgressOf params program inputs limit p
Advances (Err (Trap clock cause)) params program inputs limit = outcome_of params program inputs limit ≡ run.Trap clock cause
Advances (Err OutOfCycles) params program inputs limit = ⊥
Advances (Err Memory) params program inputs limit = Unit {0}
