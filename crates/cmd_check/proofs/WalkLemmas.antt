-- Where the steps of `member` end, behind the files that are read one after another.
use Rattle.cmd_check.proofs.Words.{◌≡◌, ℕ, List, Some, subst, Trace, Stated, ShelfState, held_steps, EndsIn, Loads, Steps, checked, asking, Outcome}
use Rattle.cmd_check.proofs.Words.{same_again}
use Rattle.block_tree.specs.Trees.{Tree}
use Rattle.merkle_lib.specs.Programs.{walk_tree}
use Rattle.cmd_kit.specs.MemberSteps.{member_line, member_steps, walked_steps}
use Rattle.cmd_kit.specs.Starts.{params_steps, trace_steps, statement_steps}
use Rattle.cmd_kit.specs.declared.outcome.Outcome.TheVariants as outcome

module _ (params table statement evidence : List ℕ) (depth : ℕ) where
  abbrev with_claim : List ℕ → Trace → Stated → Steps
  with_claim constants trace claim = walked_steps evidence depth constants trace claim

  abbrev with_table : List ℕ → Trace → Steps
  with_table constants trace = statement_steps statement (with_claim constants trace)

  abbrev with_params : List ℕ → Steps
  with_params constants = trace_steps table (with_table constants)

  abbrev Ends : Outcome → ShelfState → ShelfState → Type 0
  Ends o old new = EndsIn (Some (member_steps params table statement evidence depth)) o old new

  module _ (constants : List ℕ) (old first : ShelfState) (params_say : Loads (params_steps params) constants old first) (trace : Trace)
      (second : ShelfState) (table_says : Loads (trace_steps table) trace first second) (claim : Stated) (third : ShelfState)
      (statement_says : Loads (statement_steps statement) claim second third) where
    goes_on : (o : Outcome) (new : ShelfState) → EndsIn (Some (with_claim constants trace claim)) o third new → Ends o old new
    goes_on o new ends =
        params_say with_params o new (table_says (with_table constants) o new (statement_says (with_claim constants trace) o new ends))

    -- there is no memory for the program or the line
    pub walk_gives_up : Ends outcome.Memory old third
    walk_gives_up = goes_on outcome.Memory third (same_again (with_claim constants trace claim) third)

    pub walk_ends : (tree : Tree) (line : List ℕ) (o : Outcome) (new : ShelfState) → tree ≡ walk_tree depth → line ≡ member_line claim
        → EndsIn (Some (asking (checked constants claim trace) (held_steps evidence constants claim trace tree line))) o third new → Ends o old new
    walk_ends tree line o new is text ends =
        goes_on o new
        (subst (λ (x : List ℕ). EndsIn (Some (asking (checked constants claim trace)
        (held_steps evidence constants claim trace (walk_tree depth) x))) o third new) text
        (subst (λ (t : Tree). EndsIn (Some (asking (checked constants claim trace) (held_steps evidence constants claim trace t line)))
        o third new) is ends))
