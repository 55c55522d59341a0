-- What the functions that write a run's files answer.
use Rattle.std.specs.Prelude.{◌≡◌, ℕ, List, Some}
use Rattle.rpo_hash.specs.Constants.{constants_of}
use Rattle.rpo_hash.specs.declared.params.Params.{Params}
use Rattle.block_tree.specs.Execution as run
use Rattle.block_tree.specs.declared.program.Program.{Program}
use Rattle.vm_state.specs.Views.{state_of}
use Rattle.statement.specs.Inputs.{Given}
use Rattle.processor.specs.declared.run.Run.{Run}
use Rattle.complete_rows.specs.BlockRows.{events_of}
use Rattle.vm_io.specs.Shelf.{ShelfState}
use Rattle.cmd_kit.specs.declared.outcome.Outcome.{Outcome}
use Rattle.cmd_kit.specs.declared.status.Status.TheVariants as status
use Rattle.cmd_kit.specs.Asked.{Outputs}
use Rattle.cmd_kit.specs.Commands.{IsRight}
use Rattle.cmd_kit.specs.RunSteps.{ran_steps}
use Rattle.cmd_kit.specs.Outcomes.{EndsIn}
use Rattle.cmd_kit.specs.Steps.{Right, stop, writing, ending}

-- however the log of a run is, its steps end so
abbrev pub EndsRun : Params → Program → Run → Outputs → Given → Outcome → ShelfState → ShelfState → Type 0
EndsRun params program answer outputs given o old new =
    (log : List run.Event) → answer.events ≡ events_of (constants_of params) program.kernel log
    → EndsIn (Some (ran_steps outputs (constants_of params) given program (state_of answer.state) log)) o old new

-- a last file and a line, whatever is right for the file
abbrev pub SavesLast : List ℕ → List ℕ → List ℕ → Outcome → ShelfState → ShelfState → Type 0
SavesLast name statement line o old new =
    (right : Right) → IsRight right statement → EndsIn (Some (writing name right (λ _. ending (stop status.Ok line)))) o old new

-- two files and a line
abbrev pub SavesBoth : List ℕ → List ℕ → List ℕ → Outputs → Outcome → ShelfState → ShelfState → Type 0
SavesBoth table statement line outputs o old new =
    (of_table of_statement : Right) → IsRight of_table table → IsRight of_statement statement
    → EndsIn (Some (writing outputs.table of_table (λ _. writing outputs.statement of_statement (λ _. ending (stop status.Ok line))))) o old new
