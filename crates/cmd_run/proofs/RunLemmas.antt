-- From the course of a source to the end of `run`.
use Rattle.std.proofs.Common.{◌≡◌, ℕ, List, Option, Some, refl, subst}
use Rattle.cmd_run.proofs.Words.{constants_of, Params, tree_of, Program, state_of, Run, Given, ShelfState, Outcome, Outputs, Came, Stopped, EndsIn, Continues}
use Rattle.cmd_run.proofs.Words.{SaysStatus, ended, run_lines}
use Rattle.block_tree.specs.Trees.{Tree, tree_digest}
use Rattle.fill_files.specs.RunFiles.{IsFileOfRun, IsStatementFileOf, claim_of_run, claim_with}
use Rattle.cmd_run.specs.declared.course.Course as held
use Rattle.cmd_kit.specs.declared.outcome.Outcome.TheVariants as outcome
use Rattle.cmd_kit.specs.declared.status.Status.TheVariants as status
use Rattle.cmd_kit.specs.Commands.{IsRight}
use Rattle.cmd_kit.specs.RunSteps.{course_steps, running_steps}
use Rattle.cmd_run.specs.Saves.{EndsRun, SavesBoth, SavesLast}
use Rattle.cmd_kit.specs.Steps.{Right, SourceFile, Steps, course, ending, ran, statement_of, stop, stopped, tables_of, writing}
use Rattle.cmd_kit.proofs.ServingLemmas.{goes_past_finding, same_again, says_comes, work_ends}

-- a run to the end
pub came_ends : (outputs : Outputs) (params : Params) (source : SourceFile) (kernel : Option SourceFile) (given : Given) (limit : ℕ)
    (made : held.Course)
    (o : Outcome) (old new : ShelfState) → Came params source kernel given limit made → EndsRun params made.program made.run outputs given o old new
    → EndsIn (Some (running_steps outputs (constants_of params) source given limit kernel)) o old new
came_ends outputs params source kernel given limit made o old new came ends =
    goes_past_finding (course (constants_of params) source kernel given limit) (course_steps outputs (constants_of params) given)
    (ran made.program (state_of made.run.state) came.run.log) old
    (ended made.program came.assembled (state_of made.run.state) came.run.log came.run.is_run) o new (ends came.run.log came.run.events)

-- none
pub stopped_ends : (outputs : Outputs) (constants : List ℕ) (source : SourceFile) (kernel : Option SourceFile) (given : Given) (limit : ℕ)
    (o : Outcome) (s : ShelfState) → Stopped constants source kernel given limit o
    → EndsIn (Some (running_steps outputs constants source given limit kernel)) o s s
stopped_ends outputs constants source kernel given limit (outcome.Ends a) s h =
    goes_past_finding (course constants source kernel given limit) (course_steps outputs constants given) (stopped a) s h.0 (outcome.Ends a) s
    (work_ends (stop a.status a.line) (outcome.Ends a) s (record { ends = refl; kind = h.1 }))
stopped_ends outputs constants source kernel given limit outcome.Memory s h = same_again (running_steps outputs constants source given limit kernel) s

-- the files of a run are those that its steps write
pub saved_ends : (outputs : Outputs) (params : Params) (program : Program) (answer : Run) (given : Given) (table statement line : List ℕ)
    (o : Outcome) (old new : ShelfState) → IsFileOfRun params program answer table
    → IsStatementFileOf (claim_of_run (constants_of params) (tree_of program.tree) program.kernel given.stack answer.state.stack) statement
    → line ≡ run_lines (state_of answer.state) → SavesBoth table statement line outputs o old new
    → EndsRun params program answer outputs given o old new
saved_ends outputs params program answer given table statement line o old new tables claims is saves log events =
    subst (λ text. EndsIn (Some (writing outputs.table of_table
    (λ _. writing outputs.statement of_statement (λ _. ending (stop status.Ok text))))) o old new) is
    (saves of_table of_statement (tables log events) claims)
  where
    of_table : Right
    of_table = tables_of (constants_of params) program.kernel (state_of answer.state) log

    of_statement : Right
    of_statement = statement_of (claim_of_run (constants_of params) (tree_of program.tree) program.kernel given.stack answer.state.stack)

-- the file of what is claimed with the digest of the program's tree
pub claims_run : (constants : List ℕ) (tree : Tree) (digest : List ℕ) (kernel : List (List ℕ)) (inputs outputs statement : List ℕ)
    → digest ≡ tree_digest constants tree → IsStatementFileOf (claim_with digest kernel inputs outputs) statement
    → IsStatementFileOf (claim_of_run constants tree kernel inputs outputs) statement
claims_run constants tree digest kernel inputs outputs statement e file =
    subst (λ (d : List ℕ). IsStatementFileOf (claim_with d kernel inputs outputs) statement) e file

-- no memory for them
pub unsaved_ends : (outputs : Outputs) (params : Params) (program : Program) (answer : Run) (given : Given) (s : ShelfState)
    → EndsRun params program answer outputs given outcome.Memory s s
unsaved_ends outputs params program answer given s log events = same_again _ s

-- the last file was written, and the line is told
pub last_saved : (name statement line : List ℕ) (o : Outcome) (old mid : ShelfState)
    → ((right : Right) (next : List ℕ → Steps) → IsRight right statement → Continues (writing name right next) (next statement) old mid)
    → SaysStatus o status.Ok line → SavesLast name statement line o old mid
last_saved name statement line o old mid goes says right fit =
    goes right (λ _. ending (stop status.Ok line)) fit o mid (work_ends (stop status.Ok line) o mid (says_comes status.Ok line o refl says))
