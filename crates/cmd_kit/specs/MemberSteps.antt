-- The steps of `member`: those of `check --source`, with the program that walks a path in the place of a source's (docs/FORMATS.md).
use Rattle.std.specs.Prelude.{ℕ, List, ◌++◌, codes}
use Rattle.vm_field.specs.Machine.{filled_up}
use Rattle.vm_field.specs.WordText.{word_hex}
use Rattle.merkle_lib.specs.Programs.{leaf_on, root_on, walk_tree}
use Rattle.statement.specs.Statements.{Stated}
use Rattle.air_kit.specs.declared.trace.Trace.{Trace}
use Rattle.cmd_kit.specs.CheckSourceSteps.{held_steps}
use Rattle.cmd_kit.specs.Starts.{params_steps, trace_steps, statement_steps}
use Rattle.cmd_kit.specs.Steps.{checked, Steps, asking}

-- the line that tells of a run: the leaf and the root, which lie on the stack that the statement's inputs begin with
abbrev pub member_line : Stated → List ℕ
member_line claim =
    codes "member " ++ word_hex (leaf_on (filled_up claim.inputs)) ++ codes " " ++ word_hex (root_on (filled_up claim.inputs)) ++ codes "\n"

abbrev pub walked_steps : List ℕ → ℕ → List ℕ → Trace → Stated → Steps
walked_steps evidence depth constants trace claim =
    asking (checked constants claim trace) (held_steps evidence constants claim trace (walk_tree depth) (member_line claim))

abbrev pub member_steps : List ℕ → List ℕ → List ℕ → List ℕ → ℕ → Steps
member_steps params table statement evidence depth =
    params_steps params (λ constants. trace_steps table (λ trace. statement_steps statement (walked_steps evidence depth constants trace)))
