-- The steps of `run`.
use Rattle.std.specs.Prelude.{ℕ, List, Option}
use Rattle.block_tree.specs.Execution as execution
use Rattle.block_tree.specs.TreeView.{tree_of}
use Rattle.block_tree.specs.declared.program.Program.{Program}
use Rattle.vm_field.specs.Machine.{State}
use Rattle.statement.specs.Inputs.{Given}
use Rattle.fill_files.specs.RunFiles.{claim_of_run}
use Rattle.cmd_kit.specs.declared.status.Status.TheVariants as status
use Rattle.cmd_kit.specs.Asked.{Outputs}
use Rattle.cmd_kit.specs.RunEnds.{run_lines}
use Rattle.cmd_kit.specs.Starts.{params_steps, source_steps, inputs_steps, kernel_steps}
use Rattle.cmd_kit.specs.Steps.{SourceFile, stop, tables_of, statement_of, course, Course, ran, stopped, Steps, writing, asking, ending}

-- The tables of a run are written, then its statement, and its cycles and outputs are told.
abbrev pub ran_steps : Outputs → List ℕ → Given → Program → State → List execution.Event → Steps
ran_steps outputs constants given program last log =
    writing outputs.table (tables_of constants program.kernel last log) (λ _.
    writing outputs.statement (statement_of (claim_of_run constants (tree_of program.tree) program.kernel given.stack last.core.stack)) (λ _.
    ending (stop status.Ok (run_lines last))))

abbrev pub course_steps : Outputs → List ℕ → Given → Course → Steps
course_steps outputs constants given (ran program last log) = ran_steps outputs constants given program last log
course_steps outputs constants given (stopped a) = ending (stop a.status a.line)

abbrev pub running_steps : Outputs → List ℕ → SourceFile → Given → ℕ → Option SourceFile → Steps
running_steps outputs constants source given limit kernel =
    asking (course constants source kernel given limit) (course_steps outputs constants given)

abbrev pub run_steps : List ℕ → List ℕ → List ℕ → Outputs → Option (List ℕ) → ℕ → Steps
run_steps params source inputs outputs kernel limit =
    params_steps params (λ constants. source_steps source (λ text. inputs_steps inputs (λ given.
    kernel_steps kernel (running_steps outputs constants text given limit))))
