-- The steps of `check --source`. What follows a program is said for any tree.
use Rattle.std.specs.Prelude.{ℕ, if◌then◌else◌, List, Option}
use Rattle.std.specs.Str.{bytes_eq}
use Rattle.block_tree.specs.Trees.{Tree, tree_digest}
use Rattle.block_tree.specs.TreeView.{tree_of}
use Rattle.air_kit.specs.declared.trace.Trace.{Trace}
use Rattle.statement.specs.Statements.{Stated}
use Rattle.cmd_kit.specs.declared.status.Status.TheVariants as status
use Rattle.cmd_kit.specs.CheckEnds.{refusal}
use Rattle.cmd_kit.specs.CheckSourceEnds.{other_program_line, ran_line}
use Rattle.cmd_kit.specs.Starts.{params_steps, trace_steps, statement_steps, source_steps, kernel_steps}
use Rattle.cmd_kit.specs.Steps.{SourceFile, stop, telling_source, source_evidence_for, checked, sourced, Build, built, unbuilt, Verdict, accepted, refused, Steps, writing, asking, ending}

-- where the digests agree, evidence for the tree is written and told; of a run by the line `ran`
abbrev pub sourced_steps : List ℕ → List ℕ → Stated → Trace → Tree → List ℕ → Steps
sourced_steps name constants claim trace tree ran =
    writing name (source_evidence_for constants claim trace tree) (λ bytes. ending (telling_source constants claim trace tree ran bytes))

-- A trace that is accepted is held against the tree; one that is refused is refused by name.
abbrev pub held_steps : List ℕ → List ℕ → Stated → Trace → Tree → List ℕ → Verdict → Steps
held_steps name constants claim trace tree ran accepted =
    if bytes_eq claim.digest (tree_digest constants tree) then sourced_steps name constants claim trace tree ran
    else ending (stop status.OtherProgram (other_program_line claim.digest (tree_digest constants tree)))
held_steps name constants claim trace tree ran (refused why) = ending (refusal why)

-- A source is assembled before the trace is judged.
abbrev pub built_steps : List ℕ → List ℕ → Stated → Trace → Build → Steps
built_steps name constants claim trace (built program) =
    asking (checked constants claim trace) (held_steps name constants claim trace (tree_of program.tree) ran_line)
built_steps name constants claim trace (unbuilt a) = ending (stop a.status a.line)

abbrev pub building_steps : List ℕ → List ℕ → Stated → Trace → SourceFile → Option SourceFile → Steps
building_steps name constants claim trace source kernel = asking (sourced constants source kernel) (built_steps name constants claim trace)

abbrev pub with_source_steps : List ℕ → List ℕ → Option (List ℕ) → List ℕ → Trace → Stated → Steps
with_source_steps evidence source kernel constants trace claim =
    source_steps source (λ text. kernel_steps kernel (building_steps evidence constants claim trace text))

abbrev pub check_source_steps : List ℕ → List ℕ → List ℕ → List ℕ → List ℕ → Option (List ℕ) → Steps
check_source_steps params table statement evidence source kernel =
    params_steps params (λ constants. trace_steps table (λ trace.
    statement_steps statement (with_source_steps evidence source kernel constants trace)))
