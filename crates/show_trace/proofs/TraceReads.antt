-- The files of `trace`, read one after another: where its steps end.
use Rattle.std.proofs.Common.{ℕ, List, Option, Some}
use Rattle.statement.specs.Inputs.{Given}
use Rattle.vm_io.specs.Shelf.{ShelfState}
use Rattle.cmd_kit.specs.Outcomes.{EndsIn, EndsThere, Loads}
use Rattle.cmd_kit.specs.Starts.{params_steps, source_steps, inputs_steps, kernel_steps}
use Rattle.cmd_kit.specs.Steps.{SourceFile, Steps}
use Rattle.cmd_kit.specs.declared.outcome.Outcome.{Outcome}
use Rattle.show_trace.specs.TraceSteps.{trace_steps, tracing_steps}

module _ (params source inputs : List ℕ) (name : Option (List ℕ)) (limit : ℕ) where
  abbrev with_inputs : List ℕ → SourceFile → Given → Steps
  with_inputs constants text given = kernel_steps name (tracing_steps constants text given limit)

  abbrev with_source : List ℕ → SourceFile → Steps
  with_source constants text = inputs_steps inputs (with_inputs constants text)

  abbrev with_params : List ℕ → Steps
  with_params constants = source_steps source (with_source constants)

  abbrev Ends : Outcome → ShelfState → ShelfState → Type 0
  Ends o old new = EndsIn (Some (trace_steps params source inputs name limit)) o old new

  module _ (constants : List ℕ) (old first : ShelfState) (params_say : Loads (params_steps params) constants old first) where
    pub ends_at_source : (o : Outcome) (new : ShelfState) → EndsThere (source_steps source) o first new → Ends o old new
    ends_at_source o new ends = params_say with_params o new (ends (with_source constants))

    module _ (text : SourceFile) (second : ShelfState) (source_says : Loads (source_steps source) text first second) where
      pub ends_at_inputs : (o : Outcome) (new : ShelfState) → EndsThere (inputs_steps inputs) o second new → Ends o old new
      ends_at_inputs o new ends = params_say with_params o new (source_says (with_source constants) o new (ends (with_inputs constants text)))

      module _ (given : Given) (third : ShelfState) (inputs_say : Loads (inputs_steps inputs) given second third) where
        goes_on : (o : Outcome) (new : ShelfState) → EndsIn (Some (with_inputs constants text given)) o third new → Ends o old new
        goes_on o new ends =
            params_say with_params o new (source_says (with_source constants) o new (inputs_say (with_inputs constants text) o new ends))

        pub ends_at_kernel : (o : Outcome) (new : ShelfState) → EndsThere (kernel_steps name) o third new → Ends o old new
        ends_at_kernel o new ends = goes_on o new (ends (tracing_steps constants text given limit))

        pub ends_tracing : (kernel : Option SourceFile) (fourth : ShelfState) → Loads (kernel_steps name) kernel third fourth
            → (o : Outcome) → ((s : ShelfState) → EndsIn (Some (tracing_steps constants text given limit kernel)) o s s) → Ends o old fourth
        ends_tracing kernel fourth kernel_says o ends =
            goes_on o fourth (kernel_says (tracing_steps constants text given limit) o fourth (ends fourth))
