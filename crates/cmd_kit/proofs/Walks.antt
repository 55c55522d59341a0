-- Steps that ended with an answer, walked one after the other over told files.
use Rattle.cmd_kit.proofs.Words.{◌≡◌, ◌⊎◌, ℕ, ◌<◌, ◌≤◌, List, length, Option, Some, None, Result, Ok, Err, refl, sym, ap, subst, inl, inr, ◌∙◌, arith, get}
use Rattle.cmd_kit.proofs.Words.{insert, Files, with_file, ShelfState, SinkState, with_piece, Status, Answer, End, Right, Question, Finding, Steps}
use Rattle.cmd_kit.proofs.Words.{reading, writing, asking, ending, ends_with, stop, checked, course, accepted, ran, Verdict, Course, SourceFile, EndsAs, Finds}
use Rattle.cmd_kit.proofs.Words.{IsRight, Passes, past_read, past_write, past_finding, ComesWhere, Concludes, steps_of, FileSays, HoldsKernel}
use Rattle.cmd_kit.proofs.Words.{with_params, with_inputs, with_trace, with_statement, with_lines, params_steps, inputs_steps, trace_steps, statement_steps}
use Rattle.cmd_kit.proofs.Words.{kernel_steps, list_steps, most_params_bytes, most_inputs_bytes, most_list_bytes, most_table_bytes}
use Rattle.cmd_kit.proofs.Words.{most_statement_bytes, parameters_of, inputs_of, trace_of, statement_of, links_of, Given, Trace, Stated, FileError}
use Rattle.cmd_kit.proofs.Words.{IsAcceptedFor, IsVerdictFor, IsCourse, halted, trapped, unended, AssemblesFiles, outcome_of, IsWholeRun, tree_of, Program, State}
use Rattle.std.proofs.lemmas.Option.{none-some, same_Some}
use Rattle.block_tree.specs.Execution as execution
use Rattle.run_chain.specs.Names as names
use Rattle.table_file.specs.declared.cause.FileError.TheVariants as file_error
use Rattle.table_file.specs.declared.cause.FileError.TheVariants.{Bad}
use Rattle.checker.specs.declared.refusal.Refused.{Refused}
use Rattle.cmd_kit.specs.declared.status.Status.TheVariants as status
use Rattle.cmd_kit.specs.Asked.{Asked, asked}
use Rattle.cmd_kit.specs.RunEnds as ends
use Rattle.cmd_kit.specs.Serving.{Holds, Prints, RefusesFile, Serves, none_yet}
use Rattle.cmd_kit.specs.Steps.{refused, stopped}
use Rattle.cmd_kit.proofs.Courses.{runs_out}
use Rattle.cmd_kit.proofs.Verdicts.{not_both}

module _ (a : Answer) (new : Option Files) where
  -- an answer behind which these files stand
  abbrev pub Done : Steps → Option Files → Type 0
  Done left now = Concludes left now a × (new ≡ now)

  -- the steps ended with it
  pub record Went (steps : Steps) (m : Files) : Type 0 where
    pub comes : ComesWhere steps Done (Some m)

  -- one step was taken, and the rest lead on
  abbrev Beyond : Steps → Files → Type 0
  Beyond (reading name most next) m = (bytes : List ℕ) × (get m name ≡ Some bytes) × (length bytes ≤ most) × Went (next bytes) m
  Beyond (writing name right next) m = (bytes : List ℕ) × IsRight right bytes × Went (next bytes) (insert m name bytes)
  Beyond (asking question next) m = (finding : Finding question) × Finds question finding × Went (next finding) m
  Beyond (ending end) m = ⊥

  went_from : (steps left : Steps) (told now : Option Files) (m : Files) → Passes steps told left now → Done left now → told ≡ Some m → Went steps m
  went_from steps left told now m passes there is =
      record { comes = subst (ComesWhere steps Done) is (record { left = left; now = now; passes = passes; there = there }) }

  stepped : (steps left : Steps) (told now : Option Files) (m : Files) → Passes steps told left now → Done left now → told ≡ Some m
      → Done steps (Some m) ⊎ Beyond steps m
  stepped steps left told now m none_yet there is = inl (subst (Done steps) is there)
  stepped steps left told now m (past_read name most next bytes held short rest) there is =
      inr (bytes, subst (λ o. Holds o name (Some bytes)) is held, short, went_from (next bytes) left told now m rest there is)
  stepped steps left told now m (past_write name right next bytes fit rest) there is =
      inr (bytes, fit, went_from (next bytes) left (with_file told name bytes) now (insert m name bytes) rest there (ap (λ o. with_file o name bytes) is))
  stepped steps left told now m (past_finding question next finding found rest) there is =
      inr (finding, found, went_from (next finding) left told now m rest there is)

-- a source whose program ended in this state
pub record EndsIn (a : Answer) (new : Option Files) (m : Files) (last : State) (next : Course → Steps) : Type 0 where
  pub program : Program
  pub end : State
  pub log : List execution.Event
  pub same : end ≡ last
  pub went : Went a new (next (ran program end log)) m

module _ {a : Answer} {new : Option Files} {m : Files} where
  first : {steps : Steps} → Went a new steps m → Done a new steps (Some m) ⊎ Beyond a new steps m
  first {steps} h = stepped a new steps h.comes.left (Some m) h.comes.now m h.comes.passes h.comes.there refl

  pub was_written : {name : List ℕ} {right : Right} {next : List ℕ → Steps} → Went a new (writing name right next) m
      → (bytes : List ℕ) × IsRight right bytes × Went a new (next bytes) (insert m name bytes)
  was_written h = elim (first h) [ inl e ↦ absurd e.0 | inr b ↦ b ]

  pub was_found : {question : Question} {next : Finding question → Steps} → Went a new (asking question next) m
      → (finding : Finding question) × Finds question finding × Went a new (next finding) m
  was_found h = elim (first h) [ inl e ↦ absurd e.0 | inr b ↦ b ]

  pub ended : {end : End} → Went a new (ending end) m → EndsAs end a × (new ≡ Some m)
  ended h = elim (first h) [ inl e ↦ e | inr b ↦ absurd b ]

  -- ---- over files that are good

  -- a file that is there and is short enough was read
  pub read_on : {name : List ℕ} {most : ℕ} {next : List ℕ → Steps} {bytes : List ℕ} → get m name ≡ Some bytes → length bytes ≤ most
      → Went a new (reading name most next) m → Went a new (next bytes) m
  read_on {name} {most} {next} {bytes} is short h = elim (first h) [
    | inl e ↦ absurd (of e.0.0 e.0.1 e.0.2)
    | inr b ↦ subst (λ x. Went a new (next x) m) (same_Some b.0 bytes (sym b.1 ∙ is)) b.3
  ]
    where
      of : (file : Option (List ℕ)) → get m name ≡ file → RefusesFile name most file a → ⊥
      of None missing h = none-some bytes (sym missing ∙ is)
      of (Some other) held h =
          let long : most < length bytes = subst (λ b. most < length b) (same_Some other bytes (sym held ∙ is)) h.0 in
          omega (arith, short, long)

  file_good : {X E : Type 0} (says : List ℕ → Result X E) (after : Result X E → Steps) {name : List ℕ} {most : ℕ} {x : X} → FileSays m name most says x
      → Went a new (reading name most (λ bytes. after (says bytes))) m → Went a new (after (Ok x)) m
  file_good says after h goes = subst (λ r. Went a new (after r) m) h.says (read_on h.stands h.short goes)

  pub params_good : {name : List ℕ} (next : List ℕ → Steps) {constants : List ℕ} → FileSays m name most_params_bytes parameters_of constants
      → Went a new (params_steps name next) m → Went a new (next constants) m
  params_good {name} next h goes = file_good parameters_of (with_params name next) h goes

  pub inputs_good : {name : List ℕ} (next : Given → Steps) {given : Given} → FileSays m name most_inputs_bytes inputs_of given
      → Went a new (inputs_steps name next) m → Went a new (next given) m
  inputs_good {name} next h goes = file_good inputs_of (with_inputs name next) h goes

  pub table_good : {name : List ℕ} (next : Trace → Steps) {trace : Trace} → FileSays m name most_table_bytes trace_of trace
      → Went a new (trace_steps name next) m → Went a new (next trace) m
  table_good {name} next h goes = file_good trace_of (with_trace name next) h goes

  pub statement_good : {name : List ℕ} (next : Stated → Steps) {claim : Stated} → FileSays m name most_statement_bytes statement_of claim
      → Went a new (statement_steps name next) m → Went a new (next claim) m
  statement_good {name} next h goes = file_good statement_of (with_statement name next) h goes

  pub list_good : (given : names.Given) (next : List (List (List ℕ)) → Steps) {lines : List (List (List ℕ))}
      → FileSays m given.list most_list_bytes (links_of given) lines → Went a new (list_steps given next) m → Went a new (next lines) m
  list_good given next h goes = file_good (links_of given) (with_lines given.list next) h goes

  pub kernel_good : (name : Option (List ℕ)) (kernel : Option SourceFile) (next : Option SourceFile → Steps) → HoldsKernel m name kernel
      → Went a new (kernel_steps name next) m → Went a new (next kernel) m
  kernel_good None kernel next is goes = subst (λ k. Went a new (next k) m) (sym is) goes
  kernel_good (Some name) kernel next is goes = subst (λ k. Went a new (next k) m) (sym is.2) (read_on is.1.stands is.1.short goes)

  -- a trace that is accepted is found so
  pub verdict_good : {constants : List ℕ} {claim : Stated} {trace : Trace} {next : Verdict → Steps} → IsAcceptedFor constants claim trace
      → Went a new (asking (checked constants claim trace) next) m → Went a new (next accepted) m
  verdict_good {constants} {claim} {trace} {next} is goes = let v = was_found goes in of v.0 v.1 v.2
    where
      of : (v : Verdict) → IsVerdictFor constants claim trace v → Went a new (next v) m → Went a new (next accepted) m
      of accepted found goes = goes
      of (refused r) found goes = absurd (not_both found.against trace r (is found.against found.is_public) found.found)

  pub course_good : {constants : List ℕ} {source : SourceFile} {kernel : Option SourceFile} {given : Given} {limit : ℕ} {next : Course → Steps}
      (program : Program) (last : State) (log : List execution.Event) → AssemblesFiles constants source kernel (Ok program)
      → outcome_of constants program given limit ≡ execution.Done last log → Went a new (asking (course constants source kernel given limit) next) m
      → EndsIn a new m last next
  course_good {constants} {source} {kernel} {given} {limit} {next} program last log is done goes =
      let c = was_found goes in
      let r = runs_out constants source kernel given limit program last log c.0 is done c.1 in
      record { program = r.program; end = r.end; log = r.log; same = r.same; went = subst (λ x. Went a new (next x) m) r.is c.2 }

-- ---- steps that ended with `Ok`

-- a source that ran to its end
pub record Ran (line : List ℕ) (new : Option Files) (m : Files) (constants : List ℕ) (source : SourceFile) (kernel : Option SourceFile) (given : Given)
    (limit : ℕ) (next : Course → Steps) : Type 0 where
  pub program : Program
  pub assembled : AssemblesFiles constants source kernel (Ok program)
  pub last : State
  pub log : List execution.Event
  pub is_run : IsWholeRun constants program.kernel limit (tree_of program.tree) given.stack given.advice last log
  pub went : Went (ends_with status.Ok line) new (next (ran program last log)) m

abbrev WentOk : List ℕ → Option Files → Files → Steps → Type 0
WentOk line new m steps = Went (ends_with status.Ok line) new steps m

module _ {line : List ℕ} {new : Option Files} {m : Files} where
  pub ended_ok : {s : Status} {text : List ℕ} → WentOk line new m (ending (stop s text)) → status.Ok ≡ s
  ended_ok h = ap (λ (b : Answer). b.status) (ended h).0

  pub was_read : {name : List ℕ} {most : ℕ} {next : List ℕ → Steps} → WentOk line new m (reading name most next)
      → (bytes : List ℕ) × (get m name ≡ Some bytes) × (length bytes ≤ most) × WentOk line new m (next bytes)
  was_read {name} {most} h = elim (first h) [ inl e ↦ absurd (of e.0.0 e.0.2) | inr b ↦ b ]
    where
      of : (file : Option (List ℕ)) → RefusesFile name most file (ends_with status.Ok line) → ⊥
      of None is = let s : status.Ok ≡ status.Missing = ap (λ (b : Answer). b.status) is in cc
      of (Some bytes) is = let s : status.Ok ≡ status.TooLong = ap (λ (b : Answer). b.status) is.1 in cc

  file_said : {X E : Type 0} (says : List ℕ → Result X E) (after : Result X E → Steps) {name : List ℕ} {most : ℕ} → ((e : E) → WentOk line new m (after (Err e)) → ⊥)
      → WentOk line new m (reading name most (λ bytes. after (says bytes))) → (x : X) × FileSays m name most says x × WentOk line new m (after (Ok x))
  file_said {X} {E} says after {name} {most} bad h = let b = was_read h in of b.0 b.1 b.2 (says b.0) refl b.3
    where
      of : (bytes : List ℕ) → get m name ≡ Some bytes → length bytes ≤ most → (r : Result X E) → says bytes ≡ r → WentOk line new m (after r)
          → (x : X) × FileSays m name most says x × WentOk line new m (after (Ok x))
      of bytes stands short (Ok x) is h = (x, record { bytes = bytes; stands = stands; short = short; says = is }, h)
      of bytes stands short (Err e) is h = absurd (bad e h)

  malformed : {text : List ℕ} → WentOk line new m (ending (stop status.Malformed text)) → ⊥
  malformed h = let s = ended_ok h in cc

  pub params_said : {name : List ℕ} (next : List ℕ → Steps) → WentOk line new m (params_steps name next)
      → (constants : List ℕ) × FileSays m name most_params_bytes parameters_of constants × WentOk line new m (next constants)
  params_said {name} next h = file_said parameters_of (with_params name next) (λ e. malformed) h

  pub inputs_said : {name : List ℕ} (next : Given → Steps) → WentOk line new m (inputs_steps name next)
      → (given : Given) × FileSays m name most_inputs_bytes inputs_of given × WentOk line new m (next given)
  inputs_said {name} next h = file_said inputs_of (with_inputs name next) (λ e. malformed) h

  pub table_said : {name : List ℕ} (next : Trace → Steps) → WentOk line new m (trace_steps name next)
      → (trace : Trace) × FileSays m name most_table_bytes trace_of trace × WentOk line new m (next trace)
  table_said {name} next h = file_said trace_of (with_trace name next) bad h
    where
      bad : (e : FileError) → WentOk line new m (with_trace name next (Err e)) → ⊥
      bad (Bad offset cause) h = malformed h
      bad file_error.Memory h = let s = ended_ok h in cc

  pub statement_said : {name : List ℕ} (next : Stated → Steps) → WentOk line new m (statement_steps name next)
      → (claim : Stated) × FileSays m name most_statement_bytes statement_of claim × WentOk line new m (next claim)
  statement_said {name} next h = file_said statement_of (with_statement name next) (λ e. malformed) h

  pub list_said : (given : names.Given) (next : List (List (List ℕ)) → Steps) → WentOk line new m (list_steps given next)
      → (lines : List (List (List ℕ))) × FileSays m given.list most_list_bytes (links_of given) lines × WentOk line new m (next lines)
  list_said given next h = file_said (links_of given) (with_lines given.list next) (λ e. malformed) h

  pub kernel_said : (kernel : Option (List ℕ)) (next : Option SourceFile → Steps) → WentOk line new m (kernel_steps kernel next)
      → (k : Option SourceFile) × HoldsKernel m kernel k × WentOk line new m (next k)
  kernel_said None next h = (None, refl, h)
  kernel_said (Some name) next h =
      let b = was_read h in
      (Some (record { name = name; text = b.0 }), (b.0, record { stands = b.1; short = b.2 }, refl), b.3)

  -- a trace that was found to be accepted
  pub verdict_said : {constants : List ℕ} {claim : Stated} {trace : Trace} {next : Verdict → Steps} → WentOk line new m (asking (checked constants claim trace) next)
      → ((why : Refused) → WentOk line new m (next (refused why)) → ⊥) → IsVerdictFor constants claim trace accepted × WentOk line new m (next accepted)
  verdict_said {constants} {claim} {trace} {next} h bad = let v = was_found h in of v.0 v.1 v.2
    where
      of : (v : Verdict) → IsVerdictFor constants claim trace v → WentOk line new m (next v) → IsVerdictFor constants claim trace accepted × WentOk line new m (next accepted)
      of accepted found h = (found, h)
      of (refused why) found h = absurd (bad why h)

  pub course_said : {constants : List ℕ} {source : SourceFile} {kernel : Option SourceFile} {given : Given} {limit : ℕ} {next : Course → Steps}
      → WentOk line new m (asking (course constants source kernel given limit) next) → ((b : Answer) → WentOk line new m (next (stopped b)) → status.Ok ≡ b.status)
      → Ran line new m constants source kernel given limit next
  course_said {constants} {source} {kernel} {given} {limit} {next} h bad = let c = was_found h in of c.0 c.1 c.2
    where
      of : (c : Course) → IsCourse constants source kernel given limit c → WentOk line new m (next c) → Ran line new m constants source kernel given limit next
      of c (ends.refused in_kernel row column cause is) h = let s : status.Ok ≡ status.Source = bad _ h in absurd (cc)
      of c (halted program is b (trapped clock cause traps)) h = let s : status.Ok ≡ status.Trap = bad _ h in absurd (cc)
      of c (halted program is b (unended out)) h = let s : status.Ok ≡ status.OutOfCycles = bad _ h in absurd (cc)
      of c (ends.ended program is last log r) h =
          record { program = program; assembled = is; last = last; log = log; is_run = r; went = h }

-- a command that answered `Ok`: its line, and its steps
pub record AnsweredOk (steps : Steps) (m : Files) (new : ShelfState) (before now : SinkState) : Type 0 where
  pub line : List ℕ
  pub taken : now ≡ record before { taken = with_piece before.taken line }
  pub went : Went (ends_with status.Ok line) new.files steps m

pub answered_ok : (words : List (List ℕ)) (c : Asked) {steps : Steps} (old : ShelfState) {new : ShelfState} {before now : SinkState} {m : Files}
    → Serves words status.Ok old new before now → asked words ≡ c → steps_of c ≡ Some steps → old.files ≡ Some m → AnsweredOk steps m new before now
answered_ok words c {steps} old {new} {before} {now} serves command are is =
    let h : Prints (Some steps) status.Ok old new before now = subst (λ o. Prints o status.Ok old new before now) (ap steps_of command ∙ are) serves in
    record {
      line = h.line;
      taken = h.taken;
      went = record { comes = subst (ComesWhere steps (Done (ends_with status.Ok h.line) new.files)) is h.works.files };
    }

-- what was written, and what was printed, by another name
pub written_as : {now : Option Files} (m : Files) (output : List ℕ) {written text : List ℕ} → now ≡ Some (insert m output written) → written ≡ text
    → now ≡ Some (insert m output text)
written_as {now} m output stands is = subst (λ bytes. now ≡ Some (insert m output bytes)) is stands

pub printed_as : (before : SinkState) {now : SinkState} {line text : List ℕ} → now ≡ record before { taken = with_piece before.taken line }
    → ends_with status.Ok line ≡ ends_with status.Ok text → now ≡ record before { taken = with_piece before.taken text }
printed_as before {now} taken same =
    subst (λ (l : List ℕ). now ≡ record before { taken = with_piece before.taken l }) (ap (λ (a : Answer). a.line) same) taken
