-- The files of `assemble`, read one after another: where its steps end.
use Rattle.std.proofs.Common.{ℕ, List, Option, Some}
use Rattle.vm_io.specs.Shelf.{ShelfState}
use Rattle.cmd_kit.specs.AssembleSteps.{assemble_steps}
use Rattle.cmd_kit.specs.Outcomes.{ComesTo, EndsIn, EndsThere, Loads}
use Rattle.cmd_kit.specs.Starts.{params_steps, source_steps, kernel_steps}
use Rattle.cmd_kit.specs.Steps.{SourceFile, Steps, assembly, ending}
use Rattle.cmd_kit.specs.declared.outcome.Outcome.{Outcome}
use Rattle.cmd_kit.proofs.ServingLemmas.{work_ends}

module _ (params source : List ℕ) (name : Option (List ℕ)) where
  abbrev with_source : List ℕ → SourceFile → Steps
  with_source constants text = kernel_steps name (λ k. ending (assembly constants text k))

  abbrev Ends : Outcome → ShelfState → ShelfState → Type 0
  Ends o old new = EndsIn (Some (assemble_steps params source name)) o old new

  module _ (constants : List ℕ) (old first : ShelfState) (params_say : Loads (params_steps params) constants old first) where
    module _ (text : SourceFile) (second : ShelfState) (source_says : Loads (source_steps source) text first second) where
      goes_on : (o : Outcome) (new : ShelfState) → EndsIn (Some (with_source constants text)) o second new → Ends o old new
      goes_on o new ends =
          params_say (λ constants. source_steps source (with_source constants)) o new (source_says (with_source constants) o new ends)

      pub ends_at_kernel : (o : Outcome) (new : ShelfState) → EndsThere (kernel_steps name) o second new → Ends o old new
      ends_at_kernel o new ends = goes_on o new (ends (λ k. ending (assembly constants text k)))

      pub ends_assembled : (kernel : Option SourceFile) (o : Outcome) (new : ShelfState) → Loads (kernel_steps name) kernel second new
          → ComesTo (assembly constants text kernel) o → Ends o old new
      ends_assembled kernel o new kernel_says comes =
          goes_on o new (kernel_says (λ k. ending (assembly constants text k)) o new (work_ends (assembly constants text kernel) o new comes))
