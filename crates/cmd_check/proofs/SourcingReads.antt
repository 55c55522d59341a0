-- The files of `check --source`, read one after another: where its steps end.
use Rattle.cmd_check.proofs.Words.{ℕ, List, Option, Some, Trace, Stated, ShelfState, building_steps, check_source_steps, with_source_steps, EndsIn, EndsThere}
use Rattle.cmd_check.proofs.Words.{Loads, SourceFile, Steps, Outcome}
use Rattle.cmd_kit.specs.Starts.{params_steps, trace_steps, statement_steps, source_steps, kernel_steps}

module _ (params table statement evidence source : List ℕ) (name : Option (List ℕ)) where
  abbrev with_claim : List ℕ → Trace → Stated → Steps
  with_claim constants trace claim = with_source_steps evidence source name constants trace claim

  abbrev with_table : List ℕ → Trace → Steps
  with_table constants trace = statement_steps statement (with_claim constants trace)

  abbrev with_params : List ℕ → Steps
  with_params constants = trace_steps table (with_table constants)

  abbrev Ends : Outcome → ShelfState → ShelfState → Type 0
  Ends o old new = EndsIn (Some (check_source_steps params table statement evidence source name)) o old new

  module _ (constants : List ℕ) (old first : ShelfState) (params_say : Loads (params_steps params) constants old first) where
    pub ends_at_table : (o : Outcome) (new : ShelfState) → EndsThere (trace_steps table) o first new → Ends o old new
    ends_at_table o new ends = params_say with_params o new (ends (with_table constants))

    module _ (trace : Trace) (second : ShelfState) (table_says : Loads (trace_steps table) trace first second) where
      pub ends_at_statement : (o : Outcome) (new : ShelfState) → EndsThere (statement_steps statement) o second new → Ends o old new
      ends_at_statement o new ends =
          params_say with_params o new (table_says (with_table constants) o new (ends (with_claim constants trace)))

      module _ (claim : Stated) (third : ShelfState) (statement_says : Loads (statement_steps statement) claim second third) where
        abbrev with_text : SourceFile → Steps
        with_text text = kernel_steps name (building_steps evidence constants claim trace text)

        goes_on : (o : Outcome) (new : ShelfState) → EndsIn (Some (with_claim constants trace claim)) o third new → Ends o old new
        goes_on o new ends =
            params_say with_params o new
            (table_says (with_table constants) o new (statement_says (with_claim constants trace) o new ends))

        pub ends_at_source : (o : Outcome) (new : ShelfState) → EndsThere (source_steps source) o third new → Ends o old new
        ends_at_source o new ends = goes_on o new (ends with_text)

        module _ (text : SourceFile) (fourth : ShelfState) (source_says : Loads (source_steps source) text third fourth) where
          pub ends_at_kernel : (o : Outcome) (new : ShelfState) → EndsThere (kernel_steps name) o fourth new → Ends o old new
          ends_at_kernel o new ends =
              goes_on o new (source_says with_text o new (ends (building_steps evidence constants claim trace text)))

          pub ends_building : (kernel : Option SourceFile) (fifth : ShelfState) → Loads (kernel_steps name) kernel fourth fifth
              → (o : Outcome) (new : ShelfState) → EndsIn (Some (building_steps evidence constants claim trace text kernel)) o fifth new
              → Ends o old new
          ends_building kernel fifth kernel_says o new ends =
              goes_on o new (source_says with_text o new (kernel_says (building_steps evidence constants claim trace text) o new ends))
