-- What `execute` answers.
use Rattle.std.specs.Prelude.{◌≡◌, ℕ, ◌≤◌, List, ◌++◌, map, Result, Ok, Err}
use Rattle.vm_field.specs.Limits.{most_cycles}
use Rattle.vm_field.specs.Machine.{start}
use Rattle.rpo_hash.specs.Constants.{constants_of}
use Rattle.rpo_hash.specs.declared.params.Params.{Params}
use Rattle.block_tree.specs.Execution as run
use Rattle.block_tree.specs.Execution.{IsCutOff, Outcome, Done, execution}
use Rattle.block_tree.specs.Trees.{tree_digest}
use Rattle.block_tree.specs.TreeView.{tree_of}
use Rattle.block_tree.specs.declared.program.Program.{Program}
use Rattle.vm_state.specs.Views.{state_of}
use Rattle.vm_state.specs.declared.inputs.Inputs.{Inputs}
use Rattle.machine_cycles.specs.Events.{shown}
use Rattle.processor.specs.declared.run.Run.{Run}
use Rattle.machine_cycles.specs.declared.refusal.Stop.{Stop}
use Rattle.machine_cycles.specs.declared.refusal.Stop.TheVariants.{Trap, OutOfCycles, Memory}

-- how a program comes out from its inputs within a limit of cycles
abbrev pub outcome_of : Params → Program → Inputs → ℕ → Outcome
outcome_of params program inputs limit =
    execution (constants_of params) program.kernel limit (tree_of program.tree) (start inputs.stack inputs.advice)

-- The run of a program to its end: the state there, an event for each cycle, the advice that was taken, the digest of its tree
-- and permutations under its constants.
pub record IsRunOf (params : Params) (program : Program) (inputs : Inputs) (limit : ℕ) (r : Run) : Type 0 where
  pub log : List run.Event
  pub done : outcome_of params program inputs limit ≡ Done (state_of r.state) log
  pub events : r.events ≡ map (shown (constants_of params) program.kernel) log
  pub tape : inputs.advice ≡ r.tape ++ r.state.tape
  pub digest : r.digest ≡ tree_digest (constants_of params) (tree_of program.tree)
  pub permutations : r.permutations ≡ constants_of params

-- the run that `execute` answers for some inputs within some limit
pub record WasExecuted (params : Params) (program : Program) (answer : Run) : Type 0 where
  pub inputs : Inputs
  pub limit : ℕ
  pub below : limit ≤ most_cycles
  pub ran : IsRunOf params program inputs limit answer

-- An answer is the run, or the trap with its clock, or that the limit cuts the run off, as the definition has it, or the want of memory.
abbrev pub Executes : Result Run Stop → Params → Program → Inputs → ℕ → Type 0
Executes (Ok r) params program inputs limit = IsRunOf params program inputs limit r
Executes (Err (Trap clock cause)) params program inputs limit = outcome_of params program inputs limit ≡ run.Trap clock cause
Executes (Err OutOfCycles) params program inputs limit = IsCutOff (outcome_of params program inputs limit)
Executes (Err Memory) params program inputs limit = Unit {0}
