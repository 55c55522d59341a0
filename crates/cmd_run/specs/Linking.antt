-- What the functions that run a link answer.
use Rattle.std.specs.Prelude.{◌≡◌, ◌≤◌, ℕ, List, length, Some}
use Rattle.vm_field.specs.Limits.{most_name_bytes}
use Rattle.rpo_hash.specs.Constants.{constants_of}
use Rattle.rpo_hash.specs.declared.params.Params.{Params}
use Rattle.block_tree.specs.Execution as run
use Rattle.block_tree.specs.declared.program.Program.{Program}
use Rattle.vm_state.specs.Views.{state_of}
use Rattle.statement.specs.Inputs.{Given}
use Rattle.processor.specs.declared.run.Run.{Run}
use Rattle.complete_rows.specs.BlockRows.{events_of}
use Rattle.vm_io.specs.Shelf.{ShelfState}
use Rattle.cmd_kit.specs.declared.outcome.Outcome.{Outcome}
use Rattle.cmd_kit.specs.declared.outcome.Outcome.TheVariants as outcome
use Rattle.cmd_kit.specs.Asked.{Outputs}
use Rattle.cmd_kit.specs.Commands.{IsRight}
use Rattle.cmd_kit.specs.Links.{line_of_link}
use Rattle.cmd_kit.specs.Outcomes.{Continues, EndsIn, SaysStatus}
use Rattle.cmd_kit.specs.RunsSteps.{RunLink, saved_steps}
use Rattle.cmd_kit.specs.Steps.{Right, Steps, writing}
use Rattle.cmd_run.specs.Naming.{outputs_from}
use Rattle.cmd_run.specs.declared.linking.LinkFiles.{LinkFiles}

-- the files of a link, as the steps name them
abbrev pub link_from : LinkFiles → RunLink
link_from link = record { source = link.source.now; inputs = link.inputs.now; outputs = outputs_from link.outputs }

pub record AreNamesOfLink (link : LinkFiles) : Type 0 where
  pub source : length link.source.now ≤ most_name_bytes
  pub inputs : length link.inputs.now ≤ most_name_bytes
  pub table : length link.outputs.table.now ≤ most_name_bytes
  pub statement : length link.outputs.statement.now ≤ most_name_bytes

-- the same answer with a link's number in front of its line; want of memory stays
abbrev pub LinkSays : ℕ → Outcome → Outcome → Type 0
LinkSays number (outcome.Ends a) o = SaysStatus o a.status (line_of_link number a.line)
LinkSays number outcome.Memory o = o ≡ outcome.Memory

-- however the log of a run is and whatever is to come, both of its files were written
abbrev pub SavesLink : Params → Program → Run → Outputs → Given → ShelfState → ShelfState → Type 0
SavesLink params program answer outputs given old new =
    (log : List run.Event) → answer.events ≡ events_of (constants_of params) program.kernel log → (next : Steps)
    → Continues (saved_steps outputs (constants_of params) given program (state_of answer.state) log next) next old new

-- or the command ended at one of them
abbrev pub EndsSaving : Params → Program → Run → Outputs → Given → Outcome → ShelfState → ShelfState → Type 0
EndsSaving params program answer outputs given o old new =
    (log : List run.Event) → answer.events ≡ events_of (constants_of params) program.kernel log → (next : Steps)
    → EndsIn (Some (saved_steps outputs (constants_of params) given program (state_of answer.state) log next)) o old new

-- two files, whatever is right for them and whatever is to come
abbrev pub two_steps : Outputs → Right → Right → Steps → Steps
two_steps outputs of_table of_statement next = writing outputs.table of_table (λ _. writing outputs.statement of_statement (λ _. next))

abbrev pub SavesTwo : List ℕ → List ℕ → Outputs → ShelfState → ShelfState → Type 0
SavesTwo table statement outputs old new =
    (of_table of_statement : Right) → IsRight of_table table → IsRight of_statement statement → (next : Steps)
    → Continues (two_steps outputs of_table of_statement next) next old new

abbrev pub EndsTwo : List ℕ → List ℕ → Outputs → Outcome → ShelfState → ShelfState → Type 0
EndsTwo table statement outputs o old new =
    (of_table of_statement : Right) → IsRight of_table table → IsRight of_statement statement → (next : Steps)
    → EndsIn (Some (two_steps outputs of_table of_statement next)) o old new
