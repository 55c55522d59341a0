-- The trace of a run, its statement, and that it is accepted.
use Rattle.std.specs.Prelude.{◌≡◌, ℕ, List}
use Rattle.vm_field.specs.Machine.{State}
use Rattle.rpo_hash.specs.Constants.{constants_of}
use Rattle.vm_table.specs.Layout.{IsTable}
use Rattle.block_tree.specs.Execution as run
use Rattle.block_tree.specs.Trees.{Tree, tree_digest}
use Rattle.air_kit.specs.Acceptance.{IsAccepted}
use Rattle.air_kit.specs.Requests.{Answers}
use Rattle.air_kit.specs.declared.trace.Public.{Public}
use Rattle.air_kit.specs.declared.trace.Trace.{Trace}
use Rattle.machine_cycles.specs.Events.{visible_of}
use Rattle.complete_rows.specs.BlockRows.{IsWholeRun, events_of, filled}
use Rattle.complete_rows.specs.RunRequests.{requests_of}

-- the statement of a run, under these constants: its program with the kernel, what it starts with, and its stack at the end
pub record IsStatementOf (constants : List ℕ) (kernel : List (List ℕ)) (tree : Tree) (inputs : List ℕ) (u : State) (p : Public) : Type 0 where
  pub constants_are : constants_of p.params ≡ constants
  pub kernel_is : p.statement.kernel ≡ kernel
  pub inputs_are : p.statement.inputs ≡ inputs
  pub digest_is : p.statement.digest ≡ tree_digest constants tree
  pub outputs_are : p.statement.outputs ≡ u.core.stack

-- the trace of a run: its filled rows, with small tables that answer what they ask; each row of cells left is its key alone
pub record IsTraceOf (constants : List ℕ) (kernel : List (List ℕ)) (u : State) (log : List run.Event) (t : Trace) : Type 0 where
  pub main_is : t.main ≡ filled constants kernel u log
  pub left : IsTable 1 t.left
  pub answers : Answers constants kernel (requests_of constants (visible_of u.core) (events_of constants kernel log)) t

-- the trace of a run is accepted for its statement
abbrev pub RunIsAccepted : Type 0
RunIsAccepted = (constants : List ℕ) (kernel : List (List ℕ)) (limit : ℕ) (tree : Tree) (inputs tape : List ℕ) (u : State) (log : List run.Event)
    → IsWholeRun constants kernel limit tree inputs tape u log → (p : Public) (t : Trace)
    → IsStatementOf constants kernel tree inputs u p → IsTraceOf constants kernel u log t → IsAccepted p t
