-- The steps of each command: no one writes a file (docs/SHOW.md).
use Rattle.std.specs.Prelude.{ℕ, List, [], ◌++◌, codes, slice_index_or, Option, Some, None, Result, Ok, Err}
use Rattle.chip_columns.specs.LeftColumns.{key}
use Rattle.air_kit.specs.Places.{Claim}
use Rattle.air_kit.specs.Traces.{lengths_of}
use Rattle.air_kit.specs.declared.fault.Fault.{Fault}
use Rattle.air_kit.specs.declared.trace.TableName.{TableName}
use Rattle.air_kit.specs.declared.trace.Trace.{Trace}
use Rattle.buses.specs.declared.bus.Bus.{Bus}
use Rattle.checker.specs.FaultRows.{faults_of}
use Rattle.checker.specs.declared.refusal.Refused.{Refused}
use Rattle.checker.specs.declared.refusal.Refused.TheVariants as why
use Rattle.statement.specs.Statements.{Stated}
use Rattle.cmd_kit.specs.Malformed.{malformed_line}
use Rattle.cmd_kit.specs.RefusalLines.{bus_line, fault_line}
use Rattle.cmd_kit.specs.Starts.{params_steps, statement_steps, trace_steps}
use Rattle.cmd_kit.specs.Steps.{End, Steps, Verdict, accepted, refused, asking, checked, ending, reading, stop}
use Rattle.cmd_kit.specs.declared.status.Status.TheVariants as status
use Rattle.show_constraints.specs.BusWords.{bus_words_line}
use Rattle.show_text.specs.BesideText.{accesses_beside}
use Rattle.show_text.specs.EvidenceText.{told_evidence}
use Rattle.show_text.specs.ExplainText.{fault_text, tuple_text}
use Rattle.show_text.specs.RowText.{rows_text}
use Rattle.show_text.specs.RunText.{trace_text}
use Rattle.show_trace.specs.TraceSteps.{trace_steps as cycle_steps}
use Rattle.show_why.specs.WhySteps.{why_steps}
use Rattle.show_app.specs.CountedText.{counted_text}
use Rattle.show_app.specs.RefusedRows.{refused_rows}
use Rattle.show_app.specs.Showing.{Shown, nothing, run, rows, explain, evidence, cycles, reason}

-- the longest evidence that is read, in bytes
abbrev pub most_evidence_bytes : ℕ
most_evidence_bytes = 1073741824

abbrev pub run_steps : List ℕ → Steps
run_steps table = trace_steps table (λ trace. ending (stop status.Ok (trace_text trace)))

abbrev pub rows_steps : List ℕ → TableName → ℕ → ℕ → Steps
rows_steps table name first last = trace_steps table (λ trace. ending (stop status.Ok (rows_text trace name first last)))

-- the line of `check`, the constraint in words with the row and the next one, and the other rows that are refused
abbrev pub faulty_text : Claim → Trace → Fault → List ℕ
faulty_text claim trace fault = fault_line fault ++ fault_text trace fault ++ refused_rows (faults_of claim trace)

-- behind the line of `check`: the bus in words, the tuple's elements by name, the rows that ask and give it, those that its key says, and the
-- accesses beside it
abbrev pub tuple_lines : Claim → Trace → Bus → List ℕ → List ℕ
tuple_lines claim trace bus tuple =
    bus_words_line bus ++ tuple_text bus tuple ++ counted_text claim trace bus tuple ++ accesses_beside trace bus tuple

abbrev pub bus_text : Claim → Trace → Bus → List ℕ → ℕ → ℕ → List ℕ
bus_text claim trace bus tuple asked given = bus_line bus tuple asked given ++ tuple_lines claim trace bus tuple

-- what is told of a refusal; of want of memory nothing
abbrev pub explained_text : Claim → Trace → Refused → List ℕ
explained_text claim trace (why.Fault fault) = faulty_text claim trace fault
explained_text claim trace (why.Bus bus tuple asked given) = bus_text claim trace bus tuple asked given
explained_text claim trace why.Memory = []

-- a refusal by a bus, or want of memory
abbrev pub IsNoFault : Refused → Type 0
IsNoFault (why.Fault fault) = ⊥
IsNoFault other = Unit {0}

abbrev pub explained : Claim → Trace → Verdict → Steps
explained claim trace accepted = ending (stop status.Ok (codes "accepted\n"))
explained claim trace (refused why) = ending (stop status.Refused (explained_text claim trace why))

-- what stands beside the rows of a trace under these constants, for what is stated
abbrev pub claim_by : List ℕ → Trace → Stated → Claim
claim_by constants trace stated = record {
  constants = constants;
  digest = stated.digest;
  kernel = stated.kernel;
  inputs = stated.inputs;
  outputs = stated.outputs;
  lengths = lengths_of trace;
  left_key = key (slice_index_or trace.left 0 []);
}

abbrev pub judging_steps : List ℕ → Trace → Stated → Steps
judging_steps constants trace stated = asking (checked constants stated trace) (explained (claim_by constants trace stated) trace)

abbrev pub explain_steps : List ℕ → List ℕ → List ℕ → Steps
explain_steps params table statement =
    params_steps params (λ constants. trace_steps table (λ trace. statement_steps statement (judging_steps constants trace)))

abbrev pub evidence_end : List ℕ → Result (List ℕ) ℕ → End
evidence_end name (Ok text) = stop status.Ok text
evidence_end name (Err line) = stop status.Malformed (malformed_line name line (codes "Line"))

abbrev pub evidence_steps : List ℕ → Steps
evidence_steps name = reading name most_evidence_bytes (λ bytes. ending (evidence_end name (told_evidence bytes)))

-- the steps of each command; words of no command have none
abbrev pub steps_of : Shown → Option Steps
steps_of nothing = None
steps_of (run table) = Some (run_steps table)
steps_of (rows table name first last) = Some (rows_steps table name first last)
steps_of (explain params table statement) = Some (explain_steps params table statement)
steps_of (evidence file) = Some (evidence_steps file)
steps_of (cycles params source inputs kernel limit) = Some (cycle_steps params source inputs kernel limit)
steps_of (reason source kernel) = Some (why_steps source kernel)
