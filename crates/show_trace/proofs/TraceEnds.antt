-- How the steps of `trace` end behind its files: a source that is refused, or a program that is told.
use Rattle.std.proofs.Common.{◌≡◌, ℕ, Bool, List, Option, Some, Ok, Err, refl}
use Rattle.block_tree.specs.Execution.{Outcome as Came, Done, Trap, OutOfCycles}
use Rattle.block_tree.specs.declared.program.Program.{Program}
use Rattle.masm_link.specs.declared.refusal.AsmCause.{AsmCause}
use Rattle.masm_link.specs.declared.refusal.AsmError.TheVariants.{Bad}
use Rattle.statement.specs.Inputs.{Given}
use Rattle.vm_io.specs.Shelf.{ShelfState}
use Rattle.cmd_kit.specs.CheckSourceEnds as ends
use Rattle.cmd_kit.specs.Outcomes.{EndsIn, SaysAnswer, SaysStatus}
use Rattle.cmd_kit.specs.RunEnds.{outcome_of}
use Rattle.cmd_kit.specs.SourceEnds.{AssemblesFiles, name_of_place, source_line}
use Rattle.cmd_kit.specs.Statuses.{kind_of, planned}
use Rattle.cmd_kit.specs.Steps.{SourceFile, stop, sourced, built, unbuilt, ends_with}
use Rattle.cmd_kit.specs.declared.outcome.Outcome.{Outcome}
use Rattle.cmd_kit.specs.declared.outcome.Outcome.TheVariants as outcome
use Rattle.cmd_kit.specs.declared.status.Status.TheVariants as status
use Rattle.cmd_kit.proofs.ServingLemmas.{goes_past_finding, same_again, says_comes, work_ends}
use Rattle.masm_places.specs.Texts.{Texts}
use Rattle.show_trace.specs.Scenes.{source_texts}
use Rattle.show_trace.specs.TraceSteps.{told, told_outcome, traced_steps, tracing_steps}

planned_outcome : (constants : List ℕ) (texts : Texts) (program : Program) (given : Given) (limit : ℕ) (o : Came)
    → kind_of (told_outcome constants texts program given limit o).status ≡ planned
planned_outcome constants texts program given limit (Done s events) = refl
planned_outcome constants texts program given limit (Trap clock cause) = refl
planned_outcome constants texts program given limit (OutOfCycles s events) = refl

module _ (constants : List ℕ) (source : SourceFile) (given : Given) (limit : ℕ) (kernel : Option SourceFile) where
  abbrev Ends : Outcome → ShelfState → Type 0
  Ends o s = EndsIn (Some (tracing_steps constants source given limit kernel)) o s s

  pub refused_ends : (in_kernel : Bool) (line column : ℕ) (cause : AsmCause) (o : Outcome) (s : ShelfState)
      → AssemblesFiles constants source kernel (Err (Bad in_kernel line column cause))
      → SaysStatus o status.Source (source_line (name_of_place in_kernel source kernel) line column cause) → Ends o s
  refused_ends in_kernel line column cause o s is says =
      let text = source_line (name_of_place in_kernel source kernel) line column cause in
      goes_past_finding (sourced constants source kernel) (traced_steps constants source given limit kernel)
      (unbuilt (ends_with status.Source text)) s (ends.refused in_kernel line column cause is) o s
      (work_ends (stop status.Source text) o s (says_comes status.Source text o refl says))

  pub told_ends : (program : Program) (o : Outcome) (s : ShelfState) → AssemblesFiles constants source kernel (Ok program)
      → SaysAnswer o (told constants (source_texts source kernel) program given limit) → Ends o s
  told_ends program o s is says =
      let texts = source_texts source kernel in
      let a = told constants texts program given limit in
      goes_past_finding (sourced constants source kernel) (traced_steps constants source given limit kernel) (built program) s
      (ends.assembled program is) o s
      (work_ends (stop a.status a.line) o s
      (says_comes a.status a.line o (planned_outcome constants texts program given limit (outcome_of constants program given limit)) says))

  pub memory_ends : (s : ShelfState) → Ends outcome.Memory s
  memory_ends s = same_again (tracing_steps constants source given limit kernel) s
