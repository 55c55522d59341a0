-- The two files of an executed run, its tables and its statement, and that the one is accepted for the other.
use Rattle.std.specs.Prelude.{◌≡◌, ℕ, ◌≤◌, List, ◌++◌, length, Ok}
use Rattle.vm_field.specs.Machine.{State}
use Rattle.rpo_hash.specs.Constants.{constants_of}
use Rattle.rpo_hash.specs.declared.params.Params.{Params}
use Rattle.vm_state.specs.Views.{state_of}
use Rattle.block_tree.specs.Execution as run
use Rattle.block_tree.specs.Trees.{Tree, tree_digest}
use Rattle.block_tree.specs.declared.program.Program.{Program}
use Rattle.processor.specs.declared.run.Run.{Run}
use Rattle.statement.specs.Statements.{Stated, stated_of, statement_of, statement_text}
use Rattle.table_file.specs.Files.{bytes_of, trace_of}
use Rattle.air_kit.specs.Acceptance.{IsAccepted}
use Rattle.air_kit.specs.declared.requests.Requests.{Requests}
use Rattle.air_kit.specs.declared.trace.Public.{Public}
use Rattle.air_kit.specs.declared.trace.Trace.{Trace}
use Rattle.complete_rows.specs.BlockRows.{IsWholeRun, events_of}
use Rattle.complete_requests.specs.Asked.{requests}
use Rattle.complete_trace.specs.Acceptance.{IsTraceOf}
use Rattle.fill_chips.specs.MemoryLimbs.{HasNoFirstStep, limbs_in}
use Rattle.fill_chips.specs.RangeRows.{range_rows}

-- the longest table file, and the longest statement
abbrev pub most_table_bytes : ℕ
most_table_bytes = 1073741824

abbrev pub most_statement_bytes : ℕ
most_statement_bytes = 16777216

-- the range table has the rows of what the main table and memory's rows ask of it, and no others
abbrev pub HasStatedRange : Requests → Trace → Type 0
HasStatedRange asked t = t.range ≡ range_rows (asked.ranges ++ limbs_in t.memory)

-- The table file of a run that ended in this state with this log: it is spelled as the trace of the run is, reads as that, and is no
-- longer than a table file may be. Of the small tables, which answer what the rows ask, the range table is stated, and memory's first
-- row shows no step.
pub record IsTableFileOf (constants : List ℕ) (kernel : List (List ℕ)) (u : State) (log : List run.Event) (bytes : List ℕ) : Type 0 where
  pub trace : Trace
  pub traces : IsTraceOf constants kernel u log trace
  pub range : HasStatedRange (requests constants kernel u log) trace
  pub memory : HasNoFirstStep trace.memory
  pub spelled : bytes ≡ bytes_of trace
  pub reads : trace_of bytes ≡ Ok trace
  pub short : length bytes ≤ most_table_bytes

-- what is claimed of a program of this digest and kernel
abbrev pub claim_with : List ℕ → List (List ℕ) → List ℕ → List ℕ → Stated
claim_with digest kernel inputs outputs = record { digest = digest; inputs = inputs; kernel = kernel; outputs = outputs }

-- what is claimed of a run, under these constants
abbrev pub claim_of_run : List ℕ → Tree → List (List ℕ) → List ℕ → List ℕ → Stated
claim_of_run constants tree kernel inputs outputs = claim_with (tree_digest constants tree) kernel inputs outputs

-- the file of a claim: it is no longer than a statement may be, and reads as the claim
pub record IsStatementFileOf (claim : Stated) (bytes : List ℕ) : Type 0 where
  pub text : bytes ≡ statement_text claim
  pub reads : statement_of bytes ≡ Ok claim
  pub short : length bytes ≤ most_statement_bytes

-- a table file of a run, for the log that its events show
abbrev pub IsFileOfRun : Params → Program → Run → List ℕ → Type 0
IsFileOfRun params program answer bytes =
    (log : List run.Event) → answer.events ≡ events_of (constants_of params) program.kernel log
    → IsTableFileOf (constants_of params) program.kernel (state_of answer.state) log bytes

-- The trace in the table file of a run is accepted for what is claimed of the run.
abbrev pub FilesAreAccepted : Type 0
FilesAreAccepted = (constants : List ℕ) (kernel : List (List ℕ)) (limit : ℕ) (tree : Tree) (inputs tape : List ℕ) (u : State) (log : List run.Event)
    → IsWholeRun constants kernel limit tree inputs tape u log
    → (p : Public) → constants_of p.params ≡ constants → stated_of p.statement ≡ claim_of_run constants tree kernel inputs u.core.stack
    → (bytes : List ℕ) → (file : IsTableFileOf constants kernel u log bytes) → IsAccepted p file.trace
