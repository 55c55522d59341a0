-- The trace that is filled of a run is accepted for its statement, and is so not refused.
use Rattle.std.proofs.Common.{◌≡◌, ℕ, List, Result, Ok, refl, subst}
use Rattle.rpo_hash.specs.Constants.{constants_of}
use Rattle.block_tree.specs.Trees.{tree_digest}
use Rattle.block_tree.specs.TreeView.{tree_of}
use Rattle.block_tree.specs.declared.program.Program.{Program}
use Rattle.vm_state.specs.Views.{state_of}
use Rattle.processor.specs.declared.run.Run.{Run}
use Rattle.statement.specs.Inputs.{Given}
use Rattle.statement.specs.Statements.{stated_of}
use Rattle.table_file.specs.Files.{bytes_of, trace_of}
use Rattle.table_file.specs.declared.cause.FileError.{FileError}
use Rattle.air_kit.specs.Acceptance.{IsAccepted}
use Rattle.air_kit.specs.declared.trace.Public.{Public}
use Rattle.air_kit.specs.declared.trace.Trace.{Trace}
use Rattle.fill_files.specs.RunFiles.{IsFileOfRun, claim_of_run, claim_with}
use Rattle.fill_files.proofs.AcceptedLemmas.{files_accepted}
use Rattle.cmd_run.specs.Courses.{HasRun}

same_trace : (read : Result Trace FileError) (t u : Trace) → read ≡ Ok t → read ≡ Ok u → t ≡ u
same_trace read t u one other = cc

pub accepted_run : (p : Public) (program : Program) (given : Given) (limit : ℕ) (answer : Run) (t : Trace) (digest : List ℕ)
    → HasRun p.params program given limit answer → IsFileOfRun p.params program answer (bytes_of t) → trace_of (bytes_of t) ≡ Ok t
    → digest ≡ tree_digest (constants_of p.params) (tree_of program.tree)
    → stated_of p.statement ≡ claim_with digest program.kernel given.stack answer.state.stack → IsAccepted p t
accepted_run p program given limit answer t digest h files reads is states =
    let constants = constants_of p.params in
    let tree = tree_of program.tree in
    let file = files h.log h.events in
    let claims : stated_of p.statement ≡ claim_of_run constants tree program.kernel given.stack answer.state.stack
    = subst (λ (d : List ℕ). stated_of p.statement ≡ claim_with d program.kernel given.stack answer.state.stack) is states in
    subst (IsAccepted p) (same_trace (trace_of (bytes_of t)) file.trace t file.reads reads)
    (files_accepted constants program.kernel limit tree given.stack given.advice (state_of answer.state) h.log h.is_run p refl claims (bytes_of t) file)
