-- The trace in the table file of a run is accepted for what is claimed of the run.
use Rattle.std.proofs.Common.{◌≡◌, ap, ℕ, List}
use Rattle.vm_field.specs.Machine.{State}
use Rattle.rpo_hash.specs.Constants.{constants_of}
use Rattle.block_tree.specs.Execution as run
use Rattle.block_tree.specs.Trees.{Tree}
use Rattle.statement.specs.Statements.{Stated, stated_of}
use Rattle.air_kit.specs.Acceptance.{IsAccepted}
use Rattle.air_kit.specs.declared.trace.Public.{Public}
use Rattle.complete_rows.specs.BlockRows.{IsWholeRun}
use Rattle.complete_trace.specs.Acceptance.{IsStatementOf}
use Rattle.complete_trace.proofs.AcceptedLaw.{run_accepted}
use Rattle.fill_files.specs.RunFiles.{IsTableFileOf, claim_of_run}

-- what is claimed of a run is its statement
states : (constants : List ℕ) (kernel : List (List ℕ)) (tree : Tree) (inputs : List ℕ) (u : State) (p : Public) → constants_of p.params ≡ constants
    → stated_of p.statement ≡ claim_of_run constants tree kernel inputs u.core.stack → IsStatementOf constants kernel tree inputs u p
states constants kernel tree inputs u p params is = record {
  constants_are = params;
  kernel_is = ap (λ (c : Stated). c.kernel) is;
  inputs_are = ap (λ (c : Stated). c.inputs) is;
  digest_is = ap (λ (c : Stated). c.digest) is;
  outputs_are = ap (λ (c : Stated). c.outputs) is;
}

pub files_accepted : (constants : List ℕ) (kernel : List (List ℕ)) (limit : ℕ) (tree : Tree) (inputs tape : List ℕ) (u : State) (log : List run.Event)
    → IsWholeRun constants kernel limit tree inputs tape u log
    → (p : Public) → constants_of p.params ≡ constants → stated_of p.statement ≡ claim_of_run constants tree kernel inputs u.core.stack
    → (bytes : List ℕ) → (file : IsTableFileOf constants kernel u log bytes) → IsAccepted p file.trace
files_accepted constants kernel limit tree inputs tape u log r p params is bytes file =
    run_accepted constants kernel limit tree inputs tape u log r p file.trace
    (states constants kernel tree inputs u p params is) file.traces
