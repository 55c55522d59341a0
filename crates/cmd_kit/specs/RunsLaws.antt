-- What `runs` leaves, whatever it answers, and that a chain of its files is accepted (docs/PROOF.md).
use Rattle.std.specs.Prelude.{◌≡◌, ◌⊎◌, ℕ, ◌+◌, ◌^◌, ◌<◌, List, [], ◌∷◌, ◌++◌, codes, length, map, take, Option, Some, None, unwrap_or}
use Rattle.std.specs.FinMap.{get, insert}
use Rattle.std.specs.List.{AllByRecursion}
use Rattle.rpo_hash.specs.ParamText.{parameters_of}
use Rattle.run_chain.specs.ListText.{list_text}
use Rattle.run_chain.specs.Lists.{links_of}
use Rattle.vm_field.specs.Limits.{most_inputs}
use Rattle.vm_field.specs.Machine.{State}
use Rattle.rpo_hash.specs.Constants.{constants_of}
use Rattle.block_tree.specs.TreeView.{tree_of}
use Rattle.block_tree.specs.declared.program.Program.{Program}
use Rattle.statement.specs.Inputs.{Given}
use Rattle.statement.specs.Statements.{Stated, stated_of}
use Rattle.statement.specs.declared.refusal.TextCause.{TextCause}
use Rattle.air_kit.specs.Acceptance.{IsAccepted}
use Rattle.air_kit.specs.declared.trace.Public.{Public}
use Rattle.fill_files.specs.RunFiles.{IsTableFileOf, IsStatementFileOf, claim_of_run}
use Rattle.vm_io.specs.Shelf.{Files, ShelfState}
use Rattle.vm_io.specs.Sink.{SinkState, SinkFails, with_piece}
use Rattle.cmd_kit.specs.declared.answer.Answer.{Answer}
use Rattle.cmd_kit.specs.declared.status.Status.{Status}
use Rattle.cmd_kit.specs.declared.status.Status.TheVariants as status
use Rattle.cmd_kit.specs.Asked.{chain, runs, asked}
use Rattle.cmd_kit.specs.Completeness.{FileSays, IsGoodRuns, LinkRuns}
use Rattle.cmd_kit.specs.Links.{broken_line, line_of_link, most_list_bytes}
use Rattle.cmd_kit.specs.Malformed.{malformed_line, malformed_text_line}
use Rattle.cmd_kit.specs.RunsNames.{IsUnwritten}
use Rattle.cmd_kit.specs.RunsSteps.{RunLink, run_link, runs_given, links_lines}
use Rattle.cmd_kit.specs.Serving.{Serves}
use Rattle.cmd_kit.specs.Starts.{most_params_bytes}
use Rattle.cmd_kit.specs.Statuses.{StatusKind, kind_of, planned, no_command, failed_read, failed_write, failed_print, no_memory}
use Rattle.cmd_kit.specs.Steps.{named_line}

-- what is claimed of the run of a link
abbrev pub claim_of_link : List ℕ → Program → Given → State → Stated
claim_of_link constants program begin last = claim_of_run constants (tree_of program.tree) program.kernel begin.stack last.core.stack

-- Both files of a link's run, from the files of m and what the link before left: its tables, and the statement of it, for which they are
-- accepted.
pub record LinkWritten (m : Files) (constants : List ℕ) (left : Option (List ℕ)) (link : RunLink) (last : State) (table statement : List ℕ) : Type 0 where
  pub ran : LinkRuns m constants left link last
  pub shows : IsTableFileOf constants ran.program.kernel last ran.log table
  pub claims : IsStatementFileOf (claim_of_link constants ran.program ran.begin last) statement
  pub accepted : (p : Public) → constants_of p.params ≡ constants → stated_of p.statement ≡ claim_of_link constants ran.program ran.begin last
      → IsAccepted p shows.trace

-- The runs of these links, in order, from the files of m: each link's two files stand behind those of the links before it. Behind them
-- the last one left this, and these files stand.
pub data LinksWritten (constants : List ℕ) : List RunLink → Option (List ℕ) → Files → Option (List ℕ) → Files → Type 0 where
  none_yet : {left : Option (List ℕ)} {m : Files} → LinksWritten constants [] left m left m
  one_more : (link : RunLink) {links : List RunLink} {left behind : Option (List ℕ)} {m n : Files} (last : State) (table statement : List ℕ)
      → LinkWritten m constants left link last table statement
      → LinksWritten constants links (Some last.core.stack) (insert (insert m link.outputs.table table) link.outputs.statement statement) behind n
      → LinksWritten constants (link ∷ links) left m behind n

-- How far `runs` came: not to its links, or behind these, which are done and of which the last one left this, with these to come. The file of this
-- name may be torn.
pub data Reached : Type 0 where
  no_links : Reached
  behind_links : (done later : List RunLink) (left torn : Option (List ℕ)) → Reached

abbrev pub torn_file : Reached → Option (List ℕ)
torn_file no_links = None
torn_file (behind_links done later left torn) = torn

-- What stands of the first of these links, behind one that left this and the files of m: nothing, a front of its table file, or its table file
-- and a front of its statement. The name of the file that may be torn is told with it.
pub data NextLeft (constants : List ℕ) (left : Option (List ℕ)) (m : Files) : List RunLink → Option (List ℕ) → Files → Type 0 where
  nothing : {later : List RunLink} → NextLeft constants left m later None m
  in_table : (link : RunLink) {later : List RunLink} (last : State) (ran : LinkRuns m constants left link last) (table : List ℕ) (front : ℕ)
      → IsTableFileOf constants ran.program.kernel last ran.log table
      → NextLeft constants left m (link ∷ later) (Some link.outputs.table) (insert m link.outputs.table (take front table))
  in_statement : (link : RunLink) {later : List RunLink} (last : State) (table statement : List ℕ) (front : ℕ)
      → LinkWritten m constants left link last table statement
      → NextLeft constants left m (link ∷ later) (Some link.outputs.statement)
      (insert (insert m link.outputs.table table) link.outputs.statement (take front statement))

-- Of these files nothing was changed, or the list was read: both files of each link that is done stand whole, and of the next one what may.
pub data RunsLeft (params list : List ℕ) (m : Files) : Reached → Files → Type 0 where
  untouched : RunsLeft params list m no_links m
  came : (constants : List ℕ) (lines : List (List (List ℕ))) (done later : List RunLink) {left torn : Option (List ℕ)} {whole n : Files}
      → FileSays m params most_params_bytes parameters_of constants
      → FileSays m list most_list_bytes (links_of (runs_given params list)) lines
      → done ++ later ≡ map run_link lines
      → LinksWritten constants done None m left whole → NextLeft constants left whole later torn n
      → RunsLeft params list m (behind_links done later left torn) n

-- The line names a file that does not serve: it is missing, too long or not of its form, or its read failed.
pub data TellsOfFile (name : List ℕ) : Status → List ℕ → Type 0 where
  missing : TellsOfFile name status.Missing (named_line (codes "missing ") name)
  too_long : TellsOfFile name status.TooLong (named_line (codes "too long ") name)
  bad_line : (line : ℕ) (cause : List ℕ) → TellsOfFile name status.Malformed (malformed_line name line cause)
  bad_text : (cause : TextCause) → TellsOfFile name status.Malformed (malformed_text_line name cause)
  unread : TellsOfFile name status.ReadFault (named_line (codes "read fault ") name)

-- the source is refused, or its run traps or does not end
pub data IsOfRun : Status → Type 0 where
  no_program : IsOfRun status.Source
  traps : IsOfRun status.Trap
  runs_on : IsOfRun status.OutOfCycles

-- What `runs` answers by how far it came: each status that it may have, and the line with it.
pub data Tells (params list : List ℕ) : Reached → Status → List ℕ → Type 0 where
  -- the file of the parameters or the list does not serve
  start_stops : (name : List ℕ) {s : Status} {line : List ℕ} → (name ≡ params) ⊎ (name ≡ list) → TellsOfFile name s line
      → Tells params list no_links s line
  -- the source or the inputs of the next link do not
  file_stops : (link : RunLink) (name : List ℕ) {done later : List RunLink} {left : Option (List ℕ)} {s : Status} {line : List ℕ}
      → (name ≡ link.source) ⊎ (name ≡ link.inputs) → TellsOfFile name s line
      → Tells params list (behind_links done (link ∷ later) left None) s line
  -- the next link has no run to an end: the line begins with `link K `, with its number K, one more than links are done
  run_stops : (link : RunLink) {done later : List RunLink} {left : Option (List ℕ)} {s : Status} (text : List ℕ) → IsOfRun s
      → Tells params list (behind_links done (link ∷ later) left None) s (line_of_link (length done + 1) text)
  -- a write of the next link failed
  write_stops : (name : List ℕ) {done later : List RunLink} {left : Option (List ℕ)}
      → Tells params list (behind_links done later left (Some name)) status.WriteFault (named_line (codes "write fault ") name)
  -- The last link that is done left more than a run may begin with, and is not the last one of the list: `broken link K`, with its number K, as
  -- many as are done
  breaks : (link : RunLink) {done later : List RunLink} {left : List ℕ} → most_inputs < length left
      → Tells params list (behind_links done (link ∷ later) (Some left) None) status.Broken (broken_line (length done))
  -- none is to come
  all_done : {done : List RunLink} {left : Option (List ℕ)}
      → Tells params list (behind_links done [] left None) status.Ok (links_lines (length done) (unwrap_or left []))

-- The answer was printed, or a front of its line was taken where the sink failed; where memory is refused nothing is told.
abbrev pub IsToldAs : List ℕ → List ℕ → Reached → StatusKind → Status → SinkState → SinkState → Type 0
IsToldAs params list reached planned s before now =
    (line : List ℕ) × (now ≡ record before { taken = with_piece before.taken line }) × Tells params list reached s line
IsToldAs params list reached no_command s before now = ⊥
IsToldAs params list reached failed_read s before now =
    (line : List ℕ) × (now ≡ record before { taken = with_piece before.taken line }) × Tells params list reached s line
IsToldAs params list reached failed_write s before now =
    (line : List ℕ) × (now ≡ record before { taken = with_piece before.taken line }) × Tells params list reached s line
IsToldAs params list reached failed_print s before now =
    (a : Answer) × SinkFails before now a.line × Tells params list reached a.status a.line
IsToldAs params list reached no_memory s before now = now ≡ before

-- Whatever is answered, the files of the links that are done stand whole, no file but theirs and a front of the next one's was changed, and the
-- answer tells how far `runs` came.
abbrev pub RunsLeaveLinks : Type 0
RunsLeaveLinks =
    (words : List (List ℕ)) (s : Status) (old new : ShelfState) (before now : SinkState) (params list : List ℕ) (m : Files)
    → Serves words s old new before now → asked words ≡ runs params list → old.files ≡ Some m
    → (reached : Reached) × (n : Files) × (new.files ≡ Some n) × RunsLeft params list m reached n
    × IsToldAs params list reached (kind_of s) s before now

-- No file is torn where the command itself answers, or where a read failed.
abbrev pub RunsLeaveWholeLinks : Type 0
RunsLeaveWholeLinks =
    (words : List (List ℕ)) (s : Status) (old new : ShelfState) (before now : SinkState) (params list : List ℕ) (m : Files)
    → Serves words s old new before now → (kind_of s ≡ planned) ⊎ (kind_of s ≡ failed_read) → asked words ≡ runs params list → old.files ≡ Some m
    → (reached : Reached) × (n : Files) × (new.files ≡ Some n) × RunsLeft params list m reached n × (torn_file reached ≡ None)

-- The links before this one stand whole, and no other file was changed.
pub record StandBefore (params list : List ℕ) (m : Files) (new : ShelfState) (number : ℕ) : Type 0 where
  pub done : List RunLink
  pub later : List RunLink
  pub left : Option (List ℕ)
  pub files_now : Files
  pub many : length done + 1 ≡ number
  pub files : new.files ≡ Some files_now
  pub stand : RunsLeft params list m (behind_links done later left None) files_now

-- Where the command itself answers with a line that begins with `link K `, exactly the K - 1 links before link K stand whole.
abbrev pub RunsTellTheLink : Type 0
RunsTellTheLink =
    (words : List (List ℕ)) (s : Status) (old new : ShelfState) (before now : SinkState) (params list : List ℕ) (m : Files)
    (number : ℕ) (printed text : List ℕ)
    → Serves words s old new before now → kind_of s ≡ planned → asked words ≡ runs params list → old.files ≡ Some m
    → before.taken ≡ Some printed → now.taken ≡ Some (printed ++ line_of_link number text) → number < 2 ^ 64
    → StandBefore params list m new number

-- All links of the list were run, and their number and what the last one left were printed.
pub record RunsStand (params list : List ℕ) (m : Files) (new : ShelfState) (before now : SinkState) : Type 0 where
  pub good : IsGoodRuns m params list
  pub left : Option (List ℕ)
  pub files_now : Files
  pub written : LinksWritten good.constants (map run_link good.lines) None m left files_now
  pub files : new.files ≡ Some files_now
  pub taken : now ≡ record before { taken = with_piece before.taken (links_lines (length good.lines) (unwrap_or left [])) }

-- Where `runs` answers `Ok`, these stand.
abbrev pub AnsweredRunsStand : Type 0
AnsweredRunsStand =
    (words : List (List ℕ)) (old new : ShelfState) (before now : SinkState) (params list : List ℕ) (m : Files)
    → Serves words status.Ok old new before now → asked words ≡ runs params list → old.files ≡ Some m
    → RunsStand params list m new before now

-- the line of a chain for a line of runs
abbrev pub checked_names : RunLink → List (List ℕ)
checked_names link = link.outputs.table ∷ link.outputs.statement ∷ []

-- a list of the files that were written, of the names of each link's table file and statement
abbrev pub list_of_written : List (List (List ℕ)) → List ℕ
list_of_written lines = list_text (map (λ names. checked_names (run_link names)) lines)

-- These files hold that list under this name, and what `runs` left under the parameters' name and under those of its outputs.
pub record HoldWritten (params checked : List ℕ) (lines : List (List (List ℕ))) (left held : Files) : Type 0 where
  pub list_stands : get held checked ≡ Some (list_of_written lines)
  pub params_stay : get held params ≡ get left params
  pub outputs_stay : AllByRecursion (λ names. AllByRecursion (λ name. get held name ≡ get left name) (checked_names (run_link names))) lines

-- `chain` of the files that `runs` wrote for the same parameters, by a list of their names and into another file, is answered `Ok`, where no
-- read, no write and no memory fails and its line is taken.
abbrev pub RunsMakeAChain : Type 0
RunsMakeAChain =
    (ran_by checked_by : List (List ℕ)) (s : Status) (old mid held new : ShelfState) (a b c d : SinkState) (m h : Files)
    (params list checked evidence : List ℕ) (run : RunsStand params list m mid a b)
    → old.files ≡ Some m → asked ran_by ≡ runs params list → Serves ran_by status.Ok old mid a b
    → held.files ≡ Some h → HoldWritten params checked run.good.lines run.files_now h
    → AllByRecursion (IsUnwritten evidence) (map run_link run.good.lines)
    → asked checked_by ≡ chain params checked evidence → Serves checked_by s held new c d
    → kind_of s ≡ planned → s ≡ status.Ok
