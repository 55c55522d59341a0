-- What the functions inside answer. Nothing here belongs to the meaning of the files.
use Rattle.std.specs.Prelude.{◌≡◌, ◌+◌, ◌*◌, ◌^◌, ◌<◌, ◌≤◌, List, length}
use Rattle.rpo_hash.specs.Constants.{constants_of}
use Rattle.rpo_hash.specs.declared.params.Params.{Params}
use Rattle.vm_state.specs.Views.{state_of}
use Rattle.block_tree.specs.Execution as run
use Rattle.block_tree.specs.declared.program.Program.{Program}
use Rattle.processor.specs.declared.run.Run.{Run}
use Rattle.air_kit.specs.declared.requests.Requests.{Requests}
use Rattle.air_kit.specs.declared.trace.Trace.{Trace}
use Rattle.complete_rows.specs.BlockRows.{events_of}
use Rattle.complete_requests.specs.Asked.{requests}
use Rattle.complete_trace.specs.Acceptance.{IsTraceOf}
use Rattle.fill_chips.specs.MemoryLimbs.{HasNoFirstStep}
use Rattle.fill_files.specs.RunFiles.{HasStatedRange}

-- the trace of a run as it is written, for the log that its events show
pub record TracesLog (params : Params) (program : Program) (answer : Run) (t : Trace) (log : List run.Event) : Type 0 where
  pub traces : IsTraceOf (constants_of params) program.kernel (state_of answer.state) log t
  pub range : HasStatedRange (requests (constants_of params) program.kernel (state_of answer.state) log) t
  pub memory : HasNoFirstStep t.memory

abbrev pub TracesRun : Params → Program → Run → Trace → Type 0
TracesRun params program answer t =
    (log : List run.Event) → answer.events ≡ events_of (constants_of params) program.kernel log → TracesLog params program answer t log

-- so many permutations, bitwise operations and accesses as a run has rows at most
abbrev pub HasFew : Requests → Type 0
HasFew r = length r.perms + length r.bits + length r.accesses < 2 ^ 19

-- the rows of the tables that answer these
abbrev pub IsShort : Trace → Type 0
IsShort t = length t.hasher + length t.bitwise + 8 * length t.memory ≤ 2 ^ 22
