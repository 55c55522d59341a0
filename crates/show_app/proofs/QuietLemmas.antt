-- Steps that write no file leave all files as they were.
use Rattle.std.proofs.Common.{◌≡◌, ℕ, List, Option, Some, None, refl, ap, subst, inl, inr, ◌∙◌}
use Rattle.std.specs.Prelude.{Result, Ok, Err}
use Rattle.vm_io.specs.Shelf.{Files, ShelfState}
use Rattle.cmd_kit.specs.declared.answer.Answer.{Answer}
use Rattle.cmd_kit.specs.declared.outcome.Outcome.{Outcome}
use Rattle.cmd_kit.specs.declared.outcome.Outcome.TheVariants as outcome
use Rattle.cmd_kit.specs.Statuses.{StatusKind, planned, no_command, failed_read, failed_write, kind_of}
use Rattle.cmd_kit.specs.Steps.{Build, Finding, SourceFile, SourceRefusal, Steps, Verdict, accepted, built, refused, reading, refusal, unbuilt, writing, asking, ending}
use Rattle.cmd_kit.specs.Serving.{Passes, none_yet, past_read, past_write, past_finding, ComesWhere, FrontWritten, IsWriting, Works, GivesUp}
use Rattle.cmd_kit.specs.Outcomes.{EndsIn}
use Rattle.rpo_hash.specs.ParamText.{parameters_of}
use Rattle.rpo_hash.specs.declared.params.ParamError.{ParamError}
use Rattle.statement.specs.Inputs.{Given, inputs_of}
use Rattle.statement.specs.Statements.{Stated, statement_of}
use Rattle.statement.specs.declared.refusal.TextCause.{TextCause}
use Rattle.table_file.specs.Files.{trace_of}
use Rattle.table_file.specs.declared.cause.FileError.{FileError}
use Rattle.air_kit.specs.Places.{Claim}
use Rattle.air_kit.specs.declared.trace.Trace.{Trace}
use Rattle.cmd_kit.specs.Starts.{inputs_steps, kernel_steps, params_steps, source_steps, statement_steps, trace_steps, with_inputs, with_params, with_statement, with_trace}
use Rattle.show_trace.specs.TraceSteps.{trace_steps as cycle_steps, traced_steps, tracing_steps}
use Rattle.show_why.specs.WhySteps.{told}
use Rattle.show_app.specs.Laws.{WritesNothing}
use Rattle.show_app.specs.Showing.{Shown, nothing, run, rows, explain, evidence, cycles, reason}
use Rattle.show_app.specs.ShowSteps.{explained, steps_of}

-- no step writes
abbrev Quiet : Steps → Type 0
Quiet (reading name most next) = (bytes : List ℕ) → Quiet (next bytes)
Quiet (writing name right next) = ⊥
Quiet (asking question next) = (finding : Finding question) → Quiet (next finding)
Quiet (ending end) = Unit {0}

-- steps that were passed left the files, and those that are left write none
passes_quiet : (steps left : Steps) (m now : Option Files) → Passes steps m left now → Quiet steps → (now ≡ m) × Quiet left
passes_quiet steps left m now none_yet quiet = (refl, quiet)
passes_quiet steps left m now (past_read name most next bytes held short rest) quiet = passes_quiet (next bytes) left m now rest (quiet bytes)
passes_quiet steps left m now (past_write name right next bytes fit rest) quiet = absurd quiet
passes_quiet steps left m now (past_finding question next finding found rest) quiet = passes_quiet (next finding) left m now rest (quiet finding)

-- the next step is no write
no_front : (left : Steps) (name bytes : List ℕ) → IsWriting name bytes left → Quiet left → ⊥
no_front (reading n most next) name bytes writes quiet = writes
no_front (writing n right next) name bytes writes quiet = quiet
no_front (asking question next) name bytes writes quiet = writes
no_front (ending end) name bytes writes quiet = writes

module _ (steps : Steps) (quiet : Quiet steps) (old new : ShelfState) where
  led : (P : Steps → Option Files → Type 0) → ((left : Steps) (now : Option Files) → P left now → new.files ≡ now) → ComesWhere steps P old.files
      → new.files ≡ old.files
  led P is h = is h.left h.now h.there ∙ (passes_quiet steps h.left old.files h.now h.passes quiet).0

  unwritten : (name : List ℕ) → ComesWhere steps (λ left before. FrontWritten name left before new.files) old.files → ⊥
  unwritten name h = no_front h.left name h.there.bytes h.there.right (passes_quiet steps h.left old.files h.now h.passes quiet).1

  works_quiet : (kind : StatusKind) (a : Answer) → Works (Some steps) kind a old new → WritesNothing old new
  works_quiet planned a h = record { files = led _ (λ left now there. there.1) h.files; faults = h.counts.writes }
  works_quiet failed_read a h = record { files = led _ (λ left now there. there.1) h.1.files; faults = h.1.counts.writes }
  works_quiet failed_write a h = absurd (unwritten h.0 h.1.files)
  works_quiet kind a h = absurd h

  gives_up_quiet : GivesUp (Some steps) old new → WritesNothing old new
  gives_up_quiet (inl h) = record { files = led _ (λ left now there. there) h.files; faults = h.counts.writes }
  gives_up_quiet (inr (inl h)) = record { files = led _ (λ left now there. there.1) h.1.files; faults = h.1.counts.writes }
  gives_up_quiet (inr (inr h)) = absurd (unwritten h.0 h.1.files)

same_shelf : (old new : ShelfState) → new ≡ old → WritesNothing old new
same_shelf old new is = record { files = ap (λ (s : ShelfState). s.files) is; faults = ap (λ (s : ShelfState). s.write_faults) is }

work_quiet : (steps : Option Steps) (kind : StatusKind) (a : Answer) (old new : ShelfState)
    → ((left : Steps) → steps ≡ Some left → Quiet left) → Works steps kind a old new → WritesNothing old new
work_quiet (Some steps) kind a old new quiet h = works_quiet steps (quiet steps refl) old new kind a h
work_quiet None no_command a old new quiet h = same_shelf old new h.1
work_quiet None kind a old new quiet h = absurd h

-- ---- the steps of each command write none

trace_quiet : (name : List ℕ) (next : Trace → Steps) → ((t : Trace) → Quiet (next t)) → Quiet (trace_steps name next)
trace_quiet name next quiet bytes = go (trace_of bytes)
  where
    go : (read : Result Trace FileError) → Quiet (with_trace name next read)
    go (Ok t) = quiet t
    go (Err e) = tt

params_quiet : (name : List ℕ) (next : List ℕ → Steps) → ((c : List ℕ) → Quiet (next c)) → Quiet (params_steps name next)
params_quiet name next quiet bytes = go (parameters_of bytes)
  where
    go : (read : Result (List ℕ) ParamError) → Quiet (with_params name next read)
    go (Ok c) = quiet c
    go (Err e) = tt

statement_quiet : (name : List ℕ) (next : Stated → Steps) → ((c : Stated) → Quiet (next c)) → Quiet (statement_steps name next)
statement_quiet name next quiet bytes = go (statement_of bytes)
  where
    go : (read : Result Stated TextCause) → Quiet (with_statement name next read)
    go (Ok c) = quiet c
    go (Err e) = tt

explained_quiet : (c : Claim) (t : Trace) (verdict : Verdict) → Quiet (explained c t verdict)
explained_quiet c t accepted = tt
explained_quiet c t (refused why) = tt

source_quiet : (name : List ℕ) (next : SourceFile → Steps) → ((f : SourceFile) → Quiet (next f)) → Quiet (source_steps name next)
source_quiet name next quiet bytes = quiet (record { name = name; text = bytes })

kernel_quiet : (name : Option (List ℕ)) (next : Option SourceFile → Steps) → ((k : Option SourceFile) → Quiet (next k)) → Quiet (kernel_steps name next)
kernel_quiet None next quiet = quiet None
kernel_quiet (Some name) next quiet = source_quiet name (λ k. next (Some k)) (λ k. quiet (Some k))

inputs_quiet : (name : List ℕ) (next : Given → Steps) → ((g : Given) → Quiet (next g)) → Quiet (inputs_steps name next)
inputs_quiet name next quiet bytes = go (inputs_of bytes)
  where
    go : (read : Result Given TextCause) → Quiet (with_inputs name next read)
    go (Ok g) = quiet g
    go (Err e) = tt

traced_quiet : (constants : List ℕ) (source : SourceFile) (given : Given) (limit : ℕ) (kernel : Option SourceFile) (found : Build)
    → Quiet (traced_steps constants source given limit kernel found)
traced_quiet constants source given limit kernel (built program) = tt
traced_quiet constants source given limit kernel (unbuilt a) = tt

cycles_quiet : (params source inputs : List ℕ) (kernel : Option (List ℕ)) (limit : ℕ) → Quiet (cycle_steps params source inputs kernel limit)
cycles_quiet params source inputs kernel limit = params_quiet params _ (λ constants. source_quiet source (by_source constants) (by_inputs constants))
  where
    by_given : List ℕ → SourceFile → Given → Steps
    by_given constants s given = kernel_steps kernel (tracing_steps constants s given limit)

    by_source : List ℕ → SourceFile → Steps
    by_source constants s = inputs_steps inputs (by_given constants s)

    by_inputs : (constants : List ℕ) (s : SourceFile) → Quiet (by_source constants s)
    by_inputs constants s =
        inputs_quiet inputs (by_given constants s) (λ given.
        kernel_quiet kernel (tracing_steps constants s given limit) (λ k. λ found. traced_quiet constants s given limit k found))

reason_quiet : (source : SourceFile) (kernel : Option SourceFile) (found : Option SourceRefusal) → Quiet (told source kernel found)
reason_quiet source kernel None = tt
reason_quiet source kernel (Some r) = tt

some_same : (a b : Steps) → Some a ≡ Some b → a ≡ b
some_same a b same = cc

quiet_of : (asked : Shown) (left : Steps) → steps_of asked ≡ Some left → Quiet left
quiet_of nothing left is = absurd (cc)
quiet_of (run table) left is = subst Quiet (some_same _ _ is) (trace_quiet table _ (λ t. tt))
quiet_of (rows table name first last) left is = subst Quiet (some_same _ _ is) (trace_quiet table _ (λ t. tt))
quiet_of (explain params table statement) left is =
    subst Quiet (some_same _ _ is)
    (params_quiet params _ (λ constants. trace_quiet table _ (λ t. statement_quiet statement _ (λ claim. λ verdict. explained_quiet _ t verdict))))
quiet_of (evidence file) left is = subst Quiet (some_same _ _ is) (λ bytes. tt)
quiet_of (cycles params source inputs kernel limit) left is = subst Quiet (some_same _ _ is) (cycles_quiet params source inputs kernel limit)
quiet_of (reason source kernel) left is =
    subst Quiet (some_same _ _ is)
    (source_quiet source (λ s. kernel_steps kernel (λ k. asking (refusal s k) (told s k)))
    (λ s. kernel_quiet kernel (λ k. asking (refusal s k) (told s k)) (λ k. λ found. reason_quiet s k found)))

-- No command writes a file.
pub writes_nothing : (asked : Shown) (o : Outcome) (old new : ShelfState) → EndsIn (steps_of asked) o old new → WritesNothing old new
writes_nothing asked (outcome.Ends a) old new h = work_quiet (steps_of asked) (kind_of a.status) a old new (quiet_of asked) h
writes_nothing asked outcome.Memory old new h = go (steps_of asked) (quiet_of asked) h
  where
    go : (steps : Option Steps) → ((left : Steps) → steps ≡ Some left → Quiet left) → GivesUp steps old new → WritesNothing old new
    go None quiet h = same_shelf old new h
    go (Some steps) quiet h = gives_up_quiet steps (quiet steps refl) old new h
