-- What `runs` leaves, whatever it answers: the steps of its links, what stands at each place of them, and what is answered there.
use Rattle.cmd_kit.proofs.Words.{◌≡◌, ◌⊎◌, ℕ, ◌+◌, ◌≤◌, nat_lt, Bool, true, false, if◌then◌else◌, List, [], ◌∷◌, ◌++◌, append_assoc, codes, length, map, take}
use Rattle.cmd_kit.proofs.Words.{take_all, arith, Option, Some, None, unwrap_or, refl, sym, ap, subst, inl, inr, ◌∙◌, get, insert, nat_tests}
use Rattle.cmd_kit.proofs.Words.{length_push, tree_of, Public, files_accepted, IsTableFileOf, constants_of, stated_of, parameters_of, most_cycles}
use Rattle.cmd_kit.proofs.Words.{most_inputs, most_source_bytes, State, links_of, Given, inputs_of, TextCause, Count, Files, ShelfState, with_file}
use Rattle.cmd_kit.proofs.Words.{SinkState, with_piece, Status, Answer, EndsAs, IsRight, steps_of, BeginsWith, FileSays, LinkRuns, broken, broken_line}
use Rattle.cmd_kit.proofs.Words.{line_of_link, list_steps, most_list_bytes, with_lines, bad_inputs, malformed_line, malformed_text_line, IsCourse, halted}
use Rattle.cmd_kit.proofs.Words.{trapped, unended, RunLink, given_steps, has_no_cells, is_none_left, left_steps, link_course_steps, link_running_steps}
use Rattle.cmd_kit.proofs.Words.{links_lines, run_link, run_link_steps, runs_from, runs_given, runs_steps, ComesWhere, Concludes, GivesUp, ServesAs, Works}
use Rattle.cmd_kit.proofs.Words.{most_inputs_bytes, most_params_bytes, with_inputs, with_params, StatusKind, kind_of, planned, no_command, failed_read}
use Rattle.cmd_kit.proofs.Words.{failed_print, Course, Steps, reading, writing, asking, ending, ends_with, named_line, stop}
use Rattle.air_kit.specs.Acceptance.{IsAccepted}
use Rattle.rpo_hash.specs.CauseText.{cause_text}
use Rattle.run_chain.specs.Causes as link_cause
use Rattle.cmd_kit.specs.declared.status.Status.TheVariants as status
use Rattle.cmd_kit.specs.RunEnds as ends
use Rattle.cmd_kit.specs.RunsLaws.{LinkWritten, LinksWritten, none_yet, one_more, Reached, no_links, behind_links, torn_file, NextLeft, nothing, in_table, in_statement, RunsLeft, untouched, came, TellsOfFile, missing, too_long, bad_line, bad_text, unread, IsOfRun, no_program, traps, runs_on, Tells, start_stops, file_stops, run_stops, write_stops, breaks, all_done, IsToldAs, RunsLeaveLinks, RunsLeaveWholeLinks, claim_of_link}
use Rattle.cmd_kit.specs.Serving.{Ends, FailsAtRead, FailsAtWrite, FrontWritten, IsReading, IsWriting, RefusesFile}
use Rattle.cmd_kit.specs.Statuses.{no_memory}
use Rattle.cmd_kit.proofs.Along.{Along, along_file, at_place}
use Rattle.cmd_kit.proofs.RunsLaw.{no_cells}

-- one link more behind those that are done
one_behind : (constants : List ℕ) (links : List RunLink) (link : RunLink) {before left : Option (List ℕ)} {m n : Files} (last : State)
    (table statement : List ℕ) → LinksWritten constants links before m left n → LinkWritten n constants left link last table statement
    → LinksWritten constants (links ++ (link ∷ [])) before m (Some last.core.stack)
    (insert (insert n link.outputs.table table) link.outputs.statement statement)
one_behind constants [] link last table statement none_yet written = one_more link last table statement written none_yet
one_behind constants (first ∷ links) link last table statement (one_more _ end shown claimed w rest) written =
    one_more first end shown claimed w (one_behind constants links link last table statement rest written)

module _ (params list : List ℕ) (first : Files) where
  abbrev Left : Reached → Files → Type 0
  Left reached n = RunsLeft params list first reached n

  abbrev Say : Reached → Status → List ℕ → Type 0
  Say reached s line = Tells params list reached s line

  -- What stands at each place, and what is answered there: where a file does not serve, where a write fails, and at the end. What stands in front
  -- of a write may be torn.
  abbrev Stands : Steps → Files → Type 0
  Stands (reading name most next) n =
      (reached : Reached) × Left reached n × ((s : Status) (line : List ℕ) → TellsOfFile name s line → Say reached s line)
      × (torn_file reached ≡ None)
  Stands (writing name right next) n =
      ((reached : Reached) × Left reached n)
      × ((bytes : List ℕ) (front : ℕ) → IsRight right bytes → (reached : Reached) × Left reached (insert n name (take front bytes))
      × Say reached status.WriteFault (named_line (codes "write fault ") name))
  Stands (asking question next) n = (reached : Reached) × Left reached n
  Stands (ending end) n = (reached : Reached) × Left reached n × ((a : Answer) → EndsAs end a → Say reached a.status a.line)

  stopped : (reached : Reached) (s : Status) (line : List ℕ) (n : Files) → Left reached n → Say reached s line → Stands (ending (stop s line)) n
  stopped reached s line n left says =
      (reached, left, λ a is. subst (λ (x : Answer). Say reached x.status x.line) (sym is) says)

  module _ (constants : List ℕ) (lines : List (List (List ℕ))) (params_say : FileSays first params most_params_bytes parameters_of constants)
      (list_says : FileSays first list most_list_bytes (links_of (runs_given params list)) lines) where
    -- a link of the list, behind those that are done
    module _ (done : List RunLink) (link : RunLink) (later : List RunLink) (all : done ++ (link ∷ later) ≡ map run_link lines) (before : ℕ)
        (many : before ≡ length done) (left : Option (List ℕ)) (n : Files) (written : LinksWritten constants done None first left n)
        (next : List ℕ → Steps)
        (goes_on : (last : State) (table statement : List ℕ) → LinkWritten n constants left link last table statement
        → Along Stands (next last.core.stack) (insert (insert n link.outputs.table table) link.outputs.statement statement)) where
      abbrev at : Option (List ℕ) → Reached
      at torn = behind_links done (link ∷ later) left torn

      stands_as : (torn : Option (List ℕ)) (k : Files) → NextLeft constants left n (link ∷ later) torn k → Left (at torn) k
      stands_as torn k part = came constants lines done (link ∷ later) params_say list_says all written part

      here : Left (at None) n
      here = stands_as None n nothing

      bad : (cause : TextCause) → Stands (ending (bad_inputs link.inputs cause)) n
      bad cause = stopped (at None) status.Malformed (malformed_text_line link.inputs cause) n here (file_stops link link.inputs (inr refl) (bad_text cause))

      halts : (s : Status) (text : List ℕ) → IsOfRun s → Stands (ending (stop s (line_of_link (before + 1) text))) n
      halts s text of =
          stopped (at None) s (line_of_link (before + 1) text) n here
          (subst (λ k. Say (at None) s (line_of_link (k + 1) text)) (sym many) (run_stops link text of))

      of_course : (text : List ℕ) (given begin : Given) → get n link.source ≡ Some text → length text ≤ most_source_bytes
          → FileSays n link.inputs most_inputs_bytes inputs_of given → BeginsWith left given begin → (c : Course)
          → IsCourse constants (record { name = link.source; text = text }) None begin most_cycles c
          → Along Stands (link_course_steps constants before link.outputs next begin c) n
      of_course text given begin stands short says begins c (ends.refused in_kernel row column cause is) = halts status.Source _ no_program
      of_course text given begin stands short says begins c (halted program is a (trapped clock cause stops)) = halts status.Trap _ traps
      of_course text given begin stands short says begins c (halted program is a (unended out)) = halts status.OutOfCycles _ runs_on
      of_course text given begin stands short says begins c (ends.ended program is last log r) = (
        (
          (at None, here),
          λ bytes front shows. (
            at (Some link.outputs.table),
            stands_as (Some link.outputs.table) _ (in_table link last run bytes front shows),
            write_stops link.outputs.table,
          ),
        ),
        λ table shows. (
          (
            (
              at (Some link.outputs.table),
              subst (λ t. Left (at (Some link.outputs.table)) (insert n link.outputs.table t)) (take_all (length table) table (omega arith))
                  (stands_as (Some link.outputs.table) _ (in_table link last run table (length table) shows)),
            ),
            λ bytes front claims. (
              at (Some link.outputs.statement),
              stands_as (Some link.outputs.statement) _ (in_statement link last table bytes front
                  (record { ran = run; shows = shows; claims = claims; accepted = accepts table shows })),
              write_stops link.outputs.statement,
            ),
          ),
          λ statement claims. goes_on last table statement (record { ran = run; shows = shows; claims = claims; accepted = accepts table shows }),
        ),
      )
        where
          run : LinkRuns n constants left link last
          run = record {
            text = text;
            given = given;
            source_stands = record { stands = stands; short = short };
            inputs_say = says;
            begin = begin;
            begins = begins;
            program = program;
            log = log;
            assembled = is;
            done = r.done;
          }

          accepts : (table : List ℕ) (shows : IsTableFileOf constants program.kernel last log table) (p : Public) → constants_of p.params ≡ constants
              → stated_of p.statement ≡ claim_of_link constants program begin last → IsAccepted p shows.trace
          accepts table shows p params_are claims =
              files_accepted constants program.kernel most_cycles (tree_of program.tree) begin.stack begin.advice last log r p params_are claims table
              shows

      of_begin : (text : List ℕ) (given : Given) (was : Option (List ℕ)) → was ≡ left → get n link.source ≡ Some text
          → length text ≤ most_source_bytes → FileSays n link.inputs most_inputs_bytes inputs_of given
          → Along Stands (given_steps link.inputs was
          (link_running_steps constants before link.outputs next (record { name = link.source; text = text })) given) n
      of_begin text given None is stands short says =
          ((at None, here), λ c found. of_course text given given stands short says (subst (λ l. BeginsWith l given given) is refl) c found)
      of_begin text given (Some cells) is stands short says = by (has_no_cells given.stack) refl
        where
          begin : Given
          begin = record { stack = cells; advice = given.advice }

          running : Given → Steps
          running = link_running_steps constants before link.outputs next (record { name = link.source; text = text })

          by : (b : Bool) → has_no_cells given.stack ≡ b → Along Stands (if b then running begin else ending (bad_inputs link.inputs Count)) n
          by true none = (
            (at None, here),
            λ c found. of_course text given begin stands short says
                (subst (λ l. BeginsWith l given begin) is (no_cells given.stack none, refl)) c found,
          )
          by false some = bad Count

      of_link : Along Stands (run_link_steps constants before left link next) n
      of_link = (
        (at None, here, λ s line of. file_stops link link.source (inl refl) of, refl),
        λ text stands short. along_file Stands inputs_of (with_inputs link.inputs (given_steps link.inputs left
            (link_running_steps constants before link.outputs next (record { name = link.source; text = text })))) link.inputs most_inputs_bytes n
            (at None, here, λ s line of. file_stops link link.inputs (inr refl) of, refl)
            (λ given says. of_begin text given left refl stands short says) bad,
      )

    -- behind the links that are done: the next one is begun, unless the last one left too much for it
    went_on : (done later : List RunLink) → done ++ later ≡ map run_link lines → (number : ℕ) → number ≡ length done → (left : List ℕ) (n : Files)
        → LinksWritten constants done None first (Some left) n → (next : List ℕ → Steps) → Along Stands (next left) n
        → Along Stands (left_steps number (is_none_left later) next left) n
    went_on done [] all number many left n written next rest = rest
    went_on done (link ∷ later) all number many left n written next rest = by (nat_lt most_inputs (length left)) refl
      where
        at : Reached
        at = behind_links done (link ∷ later) (Some left) None

        by : (b : Bool) → nat_lt most_inputs (length left) ≡ b → Along Stands (if b then ending (broken number) else next left) n
        by true is =
            stopped at status.Broken (broken_line number) n (came constants lines done (link ∷ later) params_say list_says all written nothing)
            (subst (λ k. Say at status.Broken (broken_line k)) (sym many) (breaks link (grind (arith, nat_tests, is))))
        by false is = rest

    of_links : (done later : List RunLink) → done ++ later ≡ map run_link lines → (before : ℕ) → before ≡ length done → (left : Option (List ℕ))
        (n : Files) → LinksWritten constants done None first left n → Along Stands (runs_from constants before left later) n
    of_links done [] all before many left n written =
        let at : Reached = behind_links done [] left None in
        stopped at status.Ok (links_lines before (unwrap_or left [])) n (came constants lines done [] params_say list_says all written nothing)
        (subst (λ k. Say at status.Ok (links_lines k (unwrap_or left []))) (sym many) all_done)
    of_links done (link ∷ later) all before many left n written =
        let further : List ℕ → Steps = λ it. runs_from constants (before + 1) (Some it) later in
        of_link done link later all before many left n written (left_steps (before + 1) (is_none_left later) further)
        (λ last table statement w.
        let now : Files = insert (insert n link.outputs.table table) link.outputs.statement statement in
        let behind : List RunLink = done ++ (link ∷ []) in
        let on : LinksWritten constants behind None first (Some last.core.stack) now
        = one_behind constants done link last table statement written w in
        let still : behind ++ later ≡ map run_link lines = append_assoc done (link ∷ []) later ∙ all in
        let more : before + 1 ≡ length behind = ap (λ k. k + 1) many ∙ sym (length_push done link) in
        went_on behind later still (before + 1) more last.core.stack now on further
        (of_links behind later still (before + 1) more (Some last.core.stack) now on))

  of_runs : Along Stands (runs_steps params list) first
  of_runs = along_file Stands parameters_of (with_params params (λ constants. list_steps (runs_given params list) (from constants))) params most_params_bytes
      first (no_links, untouched, λ s line of. start_stops params (inl refl) of, refl)
      (λ constants params_say. along_file Stands (links_of (runs_given params list)) (with_lines list (from constants)) list most_list_bytes first
      (no_links, untouched, λ s line of. start_stops list (inr refl) of, refl)
      (λ lines list_says. of_links constants lines params_say list_says [] (map run_link lines) refl 0 refl None first none_yet)
      (λ fault. stopped no_links status.Malformed (malformed_line list fault.line (link_cause.text_of_cause fault.cause)) first untouched
      (start_stops list (inr refl) (bad_line fault.line (link_cause.text_of_cause fault.cause)))))
      (λ e. stopped no_links status.Malformed (malformed_line params e.line (cause_text e.cause)) first untouched
      (start_stops params (inl refl) (bad_line e.line (cause_text e.cause))))
    where
      from : List ℕ → List (List (List ℕ)) → Steps
      from constants lines = runs_from constants 0 None (map run_link lines)

-- a file that is not had, as it is answered
told_of_file : (name : List ℕ) (most : ℕ) (file : Option (List ℕ)) (a : Answer) → RefusesFile name most file a → TellsOfFile name a.status a.line
told_of_file name most None a is = subst (λ (x : Answer). TellsOfFile name x.status x.line) (sym is) missing
told_of_file name most (Some bytes) a is = subst (λ (x : Answer). TellsOfFile name x.status x.line) (sym is.1) too_long

-- a call of `serve` over these files
module _ (params list : List ℕ) (m : Files) (old new : ShelfState) (is : old.files ≡ Some m) where
  abbrev All_steps : Steps
  All_steps = runs_steps params list

  abbrev Some_left : Type 0
  Some_left = (reached : Reached) × (n : Files) × (new.files ≡ Some n) × RunsLeft params list m reached n

  -- what stands, and this answer tells of it
  abbrev Answered : Status → List ℕ → Type 0
  Answered s line = (reached : Reached) × (n : Files) × (new.files ≡ Some n) × RunsLeft params list m reached n × Tells params list reached s line

  placed : (P : Steps → Option Files → Type 0) → (h : ComesWhere All_steps P old.files)
      → (n : Files) × (h.now ≡ Some n) × Stands params list m h.left n
  placed P h = at_place (Stands params list m) All_steps h.left old.files h.now m h.passes is (of_runs params list m)

  concluded : (left : Steps) (n : Files) (a : Answer) (now : Option Files) → Concludes left now a → Stands params list m left n
      → (reached : Reached) × RunsLeft params list m reached n × Tells params list reached a.status a.line
  concluded (reading name most next) n a now c h = (h.0, h.1, h.2 a.status a.line (told_of_file name most c.0 a c.2))
  concluded (ending end) n a now c h = (h.0, h.1, h.2 a c)
  concluded left n a now c h = absurd c

  unread_there : (name : List ℕ) (left : Steps) (n : Files) → IsReading name left → Stands params list m left n
      → (reached : Reached) × RunsLeft params list m reached n × Tells params list reached status.ReadFault (named_line (codes "read fault ") name)
  unread_there name (reading x most next) n r h =
      let line : List ℕ = named_line (codes "read fault ") name in
      (h.0, h.1, h.2 status.ReadFault line (subst (λ y. TellsOfFile y status.ReadFault line) r unread))
  unread_there name left n r h = absurd r

  any : (left : Steps) (n : Files) → Stands params list m left n → (reached : Reached) × RunsLeft params list m reached n
  any (reading name most next) n h = (h.0, h.1)
  any (writing name right next) n h = h.0
  any (asking question next) n h = h
  any (ending end) n h = (h.0, h.1)

  -- a write of this file failed, and these bytes stand under its name
  abbrev Torn : Files → List ℕ → List ℕ → Type 0
  Torn n bytes name =
      (reached : Reached) × RunsLeft params list m reached (insert n name bytes)
      × Tells params list reached status.WriteFault (named_line (codes "write fault ") name)

  torn_write : (name : List ℕ) (left : Steps) (n : Files) (before now : Option Files) → before ≡ Some n → FrontWritten name left before now
      → Stands params list m left n
      → (reached : Reached) × (k : Files) × (now ≡ Some k) × RunsLeft params list m reached k
      × Tells params list reached status.WriteFault (named_line (codes "write fault ") name)
  torn_write name left n before now told f h =
      let b = by left f.right h in
      (b.0, insert n name (take f.front f.bytes), f.files ∙ ap (λ o. with_file o name (take f.front f.bytes)) told, b.1, b.2)
    where
      by : (left : Steps) → IsWriting name f.bytes left → Stands params list m left n → Torn n (take f.front f.bytes) name
      by (writing x right next) w h = subst (Torn n (take f.front f.bytes)) (sym w.0) (h.1 f.bytes f.front w.1)
      by left w h = absurd w

  ended : (a : Answer) → Ends All_steps a old new → Answered a.status a.line
  ended a h =
      let p = placed _ h.files in
      let c = concluded h.files.left p.0 a h.files.now h.files.there.0 p.2 in
      (c.0, p.0, h.files.there.1 ∙ p.1, c.1, c.2)

  failed_reading : (name : List ℕ) → FailsAtRead All_steps name old new → Answered status.ReadFault (named_line (codes "read fault ") name)
  failed_reading name h =
      let p = placed _ h.files in
      let c = unread_there name h.files.left p.0 h.files.there.0 p.2 in
      (c.0, p.0, h.files.there.1 ∙ p.1, c.1, c.2)

  failed_writing : (name : List ℕ) → FailsAtWrite All_steps name old new → Answered status.WriteFault (named_line (codes "write fault ") name)
  failed_writing name h =
      let p = placed _ h.files in
      torn_write name h.files.left p.0 h.files.now new.files p.1 h.files.there p.2

  answered : (s : Status) (line : List ℕ) → Works (Some All_steps) (kind_of s) (ends_with s line) old new → Answered s line
  answered status.Usage line h = absurd h
  answered status.ReadFault line h = subst (Answered status.ReadFault) (sym h.2) (failed_reading h.0 h.1)
  answered status.WriteFault line h = subst (Answered status.WriteFault) (sym h.2) (failed_writing h.0 h.1)
  answered status.SinkFault line h = absurd h
  answered status.Memory line h = absurd h
  answered s line h = ended (ends_with s line) h

  given_up : GivesUp (Some All_steps) old new → Some_left
  given_up (inl h) =
      let p = placed _ h.files in
      let a = any h.files.left p.0 p.2 in
      (a.0, p.0, h.files.there ∙ p.1, a.1)
  given_up (inr (inl h)) = let c = failed_reading h.0 h.1 in (c.0, c.1, c.2, c.3)
  given_up (inr (inr h)) = let c = failed_writing h.0 h.1 in (c.0, c.1, c.2, c.3)

  abbrev Left_as : StatusKind → Status → SinkState → SinkState → Type 0
  Left_as kind s before now =
      (reached : Reached) × (n : Files) × (new.files ≡ Some n) × RunsLeft params list m reached n
      × IsToldAs params list reached kind s before now

  left_as : (kind : StatusKind) (s : Status) (before now : SinkState) → kind ≡ kind_of s → ServesAs kind (Some All_steps) s old new before now
      → Left_as kind s before now
  left_as no_command s before now of h =
      absurd (subst (λ kind. Works (Some All_steps) kind (ends_with s h.line) old new) (sym of) h.works)
  left_as failed_print s before now of h =
      let c = answered h.answer.status h.answer.line h.works in (c.0, c.1, c.2, c.3, (h.answer, h.failed, c.4))
  left_as no_memory s before now of h = let c = given_up h.gives_up in (c.0, c.1, c.2, c.3, h.taken)
  left_as kind s before now of h = let c = answered s h.line h.works in (c.0, c.1, c.2, c.3, (h.line, h.taken, c.4))

-- an answer of the command itself, or of a read that failed, tells of no torn file
none_torn : (params list : List ℕ) (reached : Reached) (s : Status) (line : List ℕ) → (kind_of s ≡ planned) ⊎ (kind_of s ≡ failed_read)
    → Tells params list reached s line → torn_file reached ≡ None
none_torn params list reached s line (inl kind) (write_stops name) = absurd (cc (kind))
none_torn params list reached s line (inr kind) (write_stops name) = absurd (cc (kind))
none_torn params list reached s line kind tells = refl

pub runs_leave_links : RunsLeaveLinks
runs_leave_links words s old new before now params list m serves command is =
    left_as params list m old new is (kind_of s) s before now refl
    (subst (λ c. ServesAs (kind_of s) (steps_of c) s old new before now) command serves)

-- the answer of the command itself, or of a read that failed
pub told_line : (params list : List ℕ) (reached : Reached) (kind : StatusKind) (s : Status) (before now : SinkState)
    → (kind ≡ planned) ⊎ (kind ≡ failed_read) → IsToldAs params list reached kind s before now
    → (line : List ℕ) × (now ≡ record before { taken = with_piece before.taken line }) × Tells params list reached s line
told_line params list reached no_command s before now of h = absurd h
told_line params list reached failed_print s before now (inl of) h = absurd (cc (of))
told_line params list reached failed_print s before now (inr of) h = absurd (cc (of))
told_line params list reached no_memory s before now (inl of) h = absurd (cc (of))
told_line params list reached no_memory s before now (inr of) h = absurd (cc (of))
told_line params list reached kind s before now of h = h

pub runs_leave_whole_links : RunsLeaveWholeLinks
runs_leave_whole_links words s old new before now params list m serves kind command is =
    let all = runs_leave_links words s old new before now params list m serves command is in
    let told = told_line params list all.0 (kind_of s) s before now kind all.4 in
    (all.0, all.1, all.2, all.3, none_torn params list all.0 s told.0 kind told.2)
