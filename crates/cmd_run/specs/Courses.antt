-- What the run of a source answers.
use Rattle.std.specs.Prelude.{◌≡◌, ℕ, List, Option, Ok}
use Rattle.rpo_hash.specs.Constants.{constants_of}
use Rattle.rpo_hash.specs.declared.params.Params.{Params}
use Rattle.block_tree.specs.Execution as run
use Rattle.block_tree.specs.TreeView.{tree_of}
use Rattle.block_tree.specs.declared.program.Program.{Program}
use Rattle.vm_state.specs.Views.{state_of}
use Rattle.statement.specs.Inputs.{Given}
use Rattle.processor.specs.Executed.{WasExecuted}
use Rattle.processor.specs.declared.run.Run.{Run}
use Rattle.complete_rows.specs.BlockRows.{IsWholeRun, events_of}
use Rattle.cmd_run.specs.declared.course.Course as held
use Rattle.cmd_kit.specs.declared.outcome.Outcome.{Outcome}
use Rattle.cmd_kit.specs.declared.outcome.Outcome.TheVariants as outcome
use Rattle.cmd_kit.specs.RunEnds.{IsCourse, IsHalt}
use Rattle.cmd_kit.specs.SourceEnds.{AssemblesFiles}
use Rattle.cmd_kit.specs.Statuses.{kind_of, planned}
use Rattle.cmd_kit.specs.Steps.{SourceFile, stopped}

-- the run of a program on these inputs that was executed to its end
pub record HasRun (params : Params) (program : Program) (given : Given) (limit : ℕ) (answer : Run) : Type 0 where
  pub executed : WasExecuted params program answer
  pub log : List run.Event
  pub events : answer.events ≡ events_of (constants_of params) program.kernel log
  pub is_run : IsWholeRun (constants_of params) program.kernel limit (tree_of program.tree) given.stack given.advice (state_of answer.state) log

-- a source's program and its run
pub record Came (params : Params) (source : SourceFile) (kernel : Option SourceFile) (given : Given) (limit : ℕ) (course : held.Course) : Type 0 where
  pub assembled : AssemblesFiles (constants_of params) source kernel (Ok course.program)
  pub run : HasRun params course.program given limit course.run

-- the answer to a program that halts. Want of memory says nothing.
abbrev pub Halts : List ℕ → Program → Given → ℕ → Outcome → Type 0
Halts constants program given limit (outcome.Ends a) = IsHalt constants program given limit a
Halts constants program given limit outcome.Memory = Unit {0}

-- the answer to a source that does not run to an end
abbrev pub Stopped : List ℕ → SourceFile → Option SourceFile → Given → ℕ → Outcome → Type 0
Stopped constants source kernel given limit (outcome.Ends a) = IsCourse constants source kernel given limit (stopped a) × (kind_of a.status ≡ planned)
Stopped constants source kernel given limit outcome.Memory = Unit {0}
