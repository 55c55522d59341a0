-- The steps of `trace` (docs/SHOW.md): the files of `run`, and then the cycles of the program's run. No file is written.
use Rattle.std.specs.Prelude.{ℕ, List, [], ◌++◌, map, Option}
use Rattle.vm_field.specs.Machine.{State}
use Rattle.block_tree.specs.Execution.{Event, Outcome, Done, Trap, OutOfCycles}
use Rattle.block_tree.specs.declared.program.Program.{Program}
use Rattle.machine_cycles.specs.Events.{shown}
use Rattle.masm_places.specs.Texts.{Texts}
use Rattle.statement.specs.Inputs.{Given}
use Rattle.cmd_kit.specs.RunEnds.{limit_line, outcome_of, trap_line}
use Rattle.cmd_kit.specs.Starts.{params_steps, source_steps, inputs_steps, kernel_steps}
use Rattle.cmd_kit.specs.Steps.{SourceFile, stop, sourced, Build, built, unbuilt, Steps, asking, ending, ends_with}
use Rattle.cmd_kit.specs.declared.answer.Answer.{Answer}
use Rattle.cmd_kit.specs.declared.status.Status.TheVariants as status
use Rattle.show_cycles.specs.CycleLines.{cycles_text, stand_line}
use Rattle.show_cycles.specs.NextLine.{next_line}
use Rattle.show_trace.specs.Scenes.{source_texts}

module _ (constants : List ℕ) (texts : Texts) (program : Program) where
  -- the cycles of a run, and the state behind them
  abbrev pub gone_text : State → List Event → List ℕ
  gone_text s events = cycles_text texts (map (shown constants program.kernel) events) ++ stand_line s

  -- where the limit cuts it off, the place where it would go on stands behind
  abbrev pub cut_text : State → List Event → List ℕ
  cut_text s events = gone_text s events ++ next_line texts (map (shown constants program.kernel) events)

  -- that of an outcome that is cut off; of no other one there is any
  abbrev pub cut_in : Outcome → List ℕ
  cut_in (Done s events) = []
  cut_in (OutOfCycles s events) = cut_text s events
  cut_in (Trap clock cause) = []

  -- What is told of a program that comes out so within a limit. Before a trap stands the same run, cut off at the trap's clock.
  abbrev pub told_outcome : Given → ℕ → Outcome → Answer
  told_outcome given limit (Done s events) = ends_with status.Ok (gone_text s events)
  told_outcome given limit (OutOfCycles s events) = ends_with status.OutOfCycles (cut_text s events ++ limit_line limit)
  told_outcome given limit (Trap clock cause) = ends_with status.Trap (cut_in (outcome_of constants program given clock) ++ trap_line clock cause)

  abbrev pub told : Given → ℕ → Answer
  told given limit = told_outcome given limit (outcome_of constants program given limit)

-- a program is run and told; a source that is refused is answered as `run` does
abbrev pub traced_steps : List ℕ → SourceFile → Given → ℕ → Option SourceFile → Build → Steps
traced_steps constants source given limit kernel (built program) =
    let a = told constants (source_texts source kernel) program given limit in ending (stop a.status a.line)
traced_steps constants source given limit kernel (unbuilt a) = ending (stop a.status a.line)

abbrev pub tracing_steps : List ℕ → SourceFile → Given → ℕ → Option SourceFile → Steps
tracing_steps constants source given limit kernel =
    asking (sourced constants source kernel) (traced_steps constants source given limit kernel)

abbrev pub trace_steps : List ℕ → List ℕ → List ℕ → Option (List ℕ) → ℕ → Steps
trace_steps params source inputs kernel limit =
    params_steps params (λ constants. source_steps source (λ text. inputs_steps inputs (λ given.
    kernel_steps kernel (tracing_steps constants text given limit))))
