-- What follows from the contract of `serve`, whatever the command.
use Rattle.std.specs.Prelude.{◌≡◌, ◌⊎◌, ℕ, List, [], ◌∷◌, Contains, Option, Some, None, IsSomeAnd, Ok, Err}
use Rattle.std.specs.FinMap.{get, insert}
use Rattle.std.specs.List.{flat_map}
use Rattle.run_chain.specs.Lists.{Links, links_of}
use Rattle.rpo_hash.specs.ParamText.{parameters_of}
use Rattle.block_tree.specs.declared.evidence.Evidence.{Evidence}
use Rattle.statement.specs.Statements.{Stated, statement_of}
use Rattle.statement.specs.EvidenceText.{evidence_text}
use Rattle.air_kit.specs.declared.trace.Trace.{Trace}
use Rattle.table_file.specs.Files.{trace_of}
use Rattle.vm_io.specs.Shelf.{Files, ShelfState}
use Rattle.vm_io.specs.Sink.{SinkState, with_piece}
use Rattle.cmd_kit.specs.declared.status.Status.{Status}
use Rattle.cmd_kit.specs.declared.status.Status.TheVariants as status
use Rattle.cmd_kit.specs.Statuses.{kind_of, planned}
use Rattle.cmd_kit.specs.Asked.{Asked, Outputs, nothing, hash, assemble, run, check, check_source, make, chain, runs, member, asked}
use Rattle.cmd_kit.specs.Steps.{Finding, accepted, Steps, reading, writing, asking, ending}
use Rattle.cmd_kit.specs.CheckEnds.{IsEvidenceFor, IsVerdictFor, accepted_line}
use Rattle.cmd_kit.specs.Commands.{steps_of}
use Rattle.cmd_kit.specs.RunsSteps.{run_link, runs_given}
use Rattle.cmd_kit.specs.Serving.{Serves}

-- Over the files of m, with what was written before, the steps write under no names but these.
abbrev pub WritesOnly : List (List ℕ) → Steps → Files → Type 0
WritesOnly outputs (reading name most next) m = (bytes : List ℕ) → get m name ≡ Some bytes → WritesOnly outputs (next bytes) m
WritesOnly outputs (writing name right next) m = Contains outputs name × ((bytes : List ℕ) → WritesOnly outputs (next bytes) (insert m name bytes))
WritesOnly outputs (asking question next) m = (finding : Finding question) → WritesOnly outputs (next finding) m
WritesOnly outputs (ending end) m = Unit {0}

-- the files of m stay in n, but under these names
abbrev pub StayBeside : List (List ℕ) → Files → Files → Type 0
StayBeside outputs m n = (name : List ℕ) → (Contains outputs name → ⊥) → get n name ≡ get m name

-- Whatever `serve` answers, every file stays but those that the command writes.
abbrev pub OtherFilesStay : Type 0
OtherFilesStay =
    (words : List (List ℕ)) (s : Status) (old new : ShelfState) (before now : SinkState) (steps : Steps) (outputs : List (List ℕ)) (m : Files)
    → Serves words s old new before now → steps_of (asked words) ≡ Some steps → WritesOnly outputs steps m → old.files ≡ Some m
    → (n : Files) × (new.files ≡ Some n) × StayBeside outputs m n

-- the names of the files that `runs` writes, line by line, where the list reads as these lines
abbrev pub names_of_outputs : Links → List (List ℕ)
names_of_outputs (Ok lines) = flat_map (λ names. (run_link names).outputs.table ∷ (run_link names).outputs.statement ∷ []) lines
names_of_outputs (Err fault) = []

-- the same, of the file that stands under the list's name, if there is one
abbrev pub listed_outputs : List ℕ → List ℕ → Option (List ℕ) → List (List ℕ)
listed_outputs params list None = []
listed_outputs params list (Some bytes) = names_of_outputs (links_of (runs_given params list) bytes)

-- the files that a command writes: `run` its tables and its statement, `check` its evidence, `make` its source and its inputs, `chain` and
-- `member` their evidence, and `runs`, over the files of m, those that its list names
abbrev pub outputs_of : Files → Asked → List (List ℕ)
outputs_of m nothing = []
outputs_of m (hash params numbers) = []
outputs_of m (assemble params source kernel) = []
outputs_of m (run params source inputs outputs kernel limit) = outputs.table ∷ outputs.statement ∷ []
outputs_of m (check params table statement evidence) = evidence ∷ []
outputs_of m (check_source params table statement evidence source kernel) = evidence ∷ []
outputs_of m (make params turns names) = names.source ∷ names.inputs ∷ []
outputs_of m (chain params list evidence) = evidence ∷ []
outputs_of m (runs params list) = listed_outputs params list (get m list)
outputs_of m (member params table statement evidence depth) = evidence ∷ []

-- no command writes other files
abbrev pub CommandsWrite : Type 0
CommandsWrite =
    (command : Asked) (steps : Steps) (m : Files) → steps_of command ≡ Some steps → WritesOnly (outputs_of m command) steps m

-- `Usage` comes of no words but those of no command,
abbrev pub UsageMeansNothing : Type 0
UsageMeansNothing =
    (words : List (List ℕ)) (old new : ShelfState) (before now : SinkState) → Serves words status.Usage old new before now → asked words ≡ nothing

-- and at these, unless printing fails or memory is refused. The shelf is untouched.
abbrev pub NothingGivesUsage : Type 0
NothingGivesUsage =
    (words : List (List ℕ)) (s : Status) (old new : ShelfState) (before now : SinkState) → Serves words s old new before now → asked words ≡ nothing
    → (new ≡ old) × ((s ≡ status.Usage) ⊎ ((s ≡ status.SinkFault) ⊎ (s ≡ status.Memory)))

-- what the three files of `check` say, and that it is accepted
pub record AreAccepted (params table statement : List ℕ) (m : Files) : Type 0 where
  pub constants : List ℕ
  pub trace : Trace
  pub claim : Stated
  pub params_say : IsSomeAnd (get m params) (λ bytes. parameters_of bytes ≡ Ok constants)
  pub table_says : IsSomeAnd (get m table) (λ bytes. trace_of bytes ≡ Ok trace)
  pub statement_says : IsSomeAnd (get m statement) (λ bytes. statement_of bytes ≡ Ok claim)
  pub found : IsVerdictFor constants claim trace accepted

-- evidence of it stands under the output's name, beside the files of m, and the line that tells of it was printed
pub record EvidenceStands (params table statement output : List ℕ) (m : Files) (new : ShelfState) (before now : SinkState) : Type 0 where
  pub files_say : AreAccepted params table statement m
  pub evidence : Evidence
  pub is_evidence : IsEvidenceFor files_say.constants files_say.claim files_say.trace evidence
  pub files : new.files ≡ Some (insert m output (evidence_text evidence))
  pub taken : now ≡ record before { taken = with_piece before.taken (accepted_line evidence) }

-- Where `check` answers `Ok`, its files are accepted, and what it wrote is evidence.
abbrev pub AcceptedHasEvidence : Type 0
AcceptedHasEvidence =
    (words : List (List ℕ)) (old new : ShelfState) (before now : SinkState) (params table statement output : List ℕ) (m : Files)
    → Serves words status.Ok old new before now → asked words ≡ check params table statement output → old.files ≡ Some m
    → EvidenceStands params table statement output m new before now

-- `check` of the files that `run` wrote for the same parameters is answered `Ok`, where no read, no write and no memory fails and its
-- line is taken.
abbrev pub WrittenRunIsAccepted : Type 0
WrittenRunIsAccepted =
    (ran_by checked_by : List (List ℕ)) (s : Status) (old mid new : ShelfState) (a b c d : SinkState) (m : Files)
    (params source inputs evidence : List ℕ) (outputs : Outputs) (kernel : Option (List ℕ)) (limit : ℕ)
    → old.files ≡ Some m → asked ran_by ≡ run params source inputs outputs kernel limit → Serves ran_by status.Ok old mid a b
    → asked checked_by ≡ check params outputs.table outputs.statement evidence → Serves checked_by s mid new c d
    → kind_of s ≡ planned → s ≡ status.Ok
