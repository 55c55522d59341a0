-- Commands over good files, and how they end (docs/PROOF.md).
use Rattle.std.specs.Prelude.{◌≡◌, ◌⊎◌, ℕ, ◌≤◌, List, [], ◌∷◌, length, map, Option, Some, None, Result, Ok}
use Rattle.std.specs.FinMap.{get}
use Rattle.fill_files.specs.RunFiles.{most_table_bytes, most_statement_bytes}
use Rattle.rpo_hash.specs.ParamText.{parameters_of}
use Rattle.vm_field.specs.Limits.{most_cycles, most_inputs, most_source_bytes}
use Rattle.vm_field.specs.Machine.{State}
use Rattle.block_tree.specs.Execution as execution
use Rattle.block_tree.specs.Execution.{Done}
use Rattle.block_tree.specs.Trees.{tree_digest}
use Rattle.block_tree.specs.TreeView.{tree_of}
use Rattle.block_tree.specs.declared.program.Program.{Program}
use Rattle.merkle_lib.specs.Programs.{walk_tree}
use Rattle.number_files.specs.Grammar.{numbers_of}
use Rattle.run_chain.specs.Following.{first_stack}
use Rattle.run_chain.specs.Lists.{links_of}
use Rattle.statement.specs.Inputs.{Given, inputs_of}
use Rattle.statement.specs.Statements.{Stated, statement_of}
use Rattle.air_kit.specs.Acceptance.{IsAccepted}
use Rattle.air_kit.specs.declared.trace.Public.{Public}
use Rattle.air_kit.specs.declared.trace.Trace.{Trace}
use Rattle.table_file.specs.Files.{trace_of}
use Rattle.vm_io.specs.Shelf.{Files, ShelfState}
use Rattle.vm_io.specs.Sink.{SinkState}
use Rattle.cmd_kit.specs.declared.status.Status.{Status}
use Rattle.cmd_kit.specs.declared.status.Status.TheVariants as status
use Rattle.cmd_kit.specs.Statuses.{StatusKind, planned, no_command, failed_read, failed_write, failed_print, no_memory, kind_of}
use Rattle.cmd_kit.specs.Asked.{Asked, nothing, hash, assemble, run, check, check_source, make, chain, runs, member, asked}
use Rattle.cmd_kit.specs.Steps.{SourceFile, Judged, accepted}
use Rattle.cmd_kit.specs.Links.{most_list_bytes}
use Rattle.cmd_kit.specs.ChainSteps.{ChainLink, chain_given, chain_link}
use Rattle.cmd_kit.specs.RunsSteps.{RunLink, runs_given, run_link}
use Rattle.cmd_kit.specs.SourceEnds.{AssemblesFiles}
use Rattle.cmd_kit.specs.RunEnds.{outcome_of}
use Rattle.cmd_kit.specs.CheckEnds.{IsPublic, IsVerdictFor}
use Rattle.cmd_kit.specs.Starts.{most_params_bytes, most_inputs_bytes}
use Rattle.cmd_kit.specs.HashSteps.{most_numbers_bytes}
use Rattle.cmd_kit.specs.MakeSteps.{made_source, made_given}
use Rattle.cmd_kit.specs.Serving.{Serves}

-- a file stands under the name, is not too long, and reads as this
pub record FileSays {A E : Type 0} (m : Files) (name : List ℕ) (most : ℕ) (reading : List ℕ → Result A E) (value : A) : Type 0 where
  pub bytes : List ℕ
  pub stands : get m name ≡ Some bytes
  pub short : length bytes ≤ most
  pub says : reading bytes ≡ Ok value

-- the text of a source stands under its name, and is not too long
pub record HoldsSource (m : Files) (source : SourceFile) : Type 0 where
  pub stands : get m source.name ≡ Some source.text
  pub short : length source.text ≤ most_source_bytes

-- so does that of a kernel, where one is named
abbrev pub HoldsKernel : Files → Option (List ℕ) → Option SourceFile → Type 0
HoldsKernel m None kernel = kernel ≡ None
HoldsKernel m (Some name) kernel =
    (text : List ℕ) × HoldsSource m (record { name = name; text = text }) × (kernel ≡ Some (record { name = name; text = text }))

-- The files of a command are there, not too long and of their forms, and what they say has an answer.
pub record IsGoodHash (m : Files) (params numbers : List ℕ) : Type 0 where
  pub constants : List ℕ
  pub elements : List ℕ
  pub params_say : FileSays m params most_params_bytes parameters_of constants
  pub numbers_say : FileSays m numbers most_numbers_bytes numbers_of elements

-- the source has a program
pub record IsGoodAssembly (m : Files) (params source : List ℕ) (name : Option (List ℕ)) : Type 0 where
  pub constants : List ℕ
  pub text : List ℕ
  pub kernel : Option SourceFile
  pub program : Program
  pub params_say : FileSays m params most_params_bytes parameters_of constants
  pub source_stands : HoldsSource m (record { name = source; text = text })
  pub kernel_stands : HoldsKernel m name kernel
  pub assembled : AssemblesFiles constants (record { name = source; text = text }) kernel (Ok program)

-- its run ends within the limit
pub record IsGoodRun (m : Files) (params source inputs : List ℕ) (name : Option (List ℕ)) (limit : ℕ) : Type 0 where
  pub constants : List ℕ
  pub text : List ℕ
  pub given : Given
  pub kernel : Option SourceFile
  pub program : Program
  pub last : State
  pub log : List execution.Event
  pub params_say : FileSays m params most_params_bytes parameters_of constants
  pub source_stands : HoldsSource m (record { name = source; text = text })
  pub inputs_say : FileSays m inputs most_inputs_bytes inputs_of given
  pub kernel_stands : HoldsKernel m name kernel
  pub assembled : AssemblesFiles constants (record { name = source; text = text }) kernel (Ok program)
  pub done : outcome_of constants program given limit ≡ Done last log

-- the trace is accepted for what is claimed, whatever value holds these constants and this claim
abbrev pub IsAcceptedFor : List ℕ → Stated → Trace → Type 0
IsAcceptedFor constants claim trace = (p : Public) → IsPublic constants claim p → IsAccepted p trace

-- the trace is accepted
pub record IsGoodCheck (m : Files) (params table statement : List ℕ) : Type 0 where
  pub constants : List ℕ
  pub trace : Trace
  pub claim : Stated
  pub params_say : FileSays m params most_params_bytes parameters_of constants
  pub table_says : FileSays m table most_table_bytes trace_of trace
  pub statement_says : FileSays m statement most_statement_bytes statement_of claim
  pub found : IsAcceptedFor constants claim trace

-- and the source has a program of the statement's digest
pub record IsGoodSourceCheck (m : Files) (params table statement source : List ℕ) (name : Option (List ℕ)) : Type 0 where
  pub constants : List ℕ
  pub trace : Trace
  pub claim : Stated
  pub text : List ℕ
  pub kernel : Option SourceFile
  pub program : Program
  pub params_say : FileSays m params most_params_bytes parameters_of constants
  pub table_says : FileSays m table most_table_bytes trace_of trace
  pub statement_says : FileSays m statement most_statement_bytes statement_of claim
  pub source_stands : HoldsSource m (record { name = source; text = text })
  pub kernel_stands : HoldsKernel m name kernel
  pub assembled : AssemblesFiles constants (record { name = source; text = text }) kernel (Ok program)
  pub found : IsAcceptedFor constants claim trace
  pub digest : claim.digest ≡ tree_digest constants (tree_of program.tree)

-- and the statement has the digest of the program that walks a path of so many steps
pub record IsGoodMember (m : Files) (params table statement : List ℕ) (depth : ℕ) : Type 0 where
  pub constants : List ℕ
  pub trace : Trace
  pub claim : Stated
  pub params_say : FileSays m params most_params_bytes parameters_of constants
  pub table_says : FileSays m table most_table_bytes trace_of trace
  pub statement_says : FileSays m statement most_statement_bytes statement_of claim
  pub found : IsAcceptedFor constants claim trace
  pub digest : claim.digest ≡ tree_digest constants (walk_tree depth)

-- the source that is made has a program, and its run on the inputs that are made ends
pub record IsGoodMake (m : Files) (params source : List ℕ) (turns : ℕ) : Type 0 where
  pub constants : List ℕ
  pub program : Program
  pub last : State
  pub log : List execution.Event
  pub params_say : FileSays m params most_params_bytes parameters_of constants
  pub assembled : AssemblesFiles constants (made_source source turns) None (Ok program)
  pub done : outcome_of constants program (made_given turns) most_cycles ≡ Done last log

-- the statement follows what the link before left; the first one follows none
abbrev pub FollowsOn : Option (List ℕ) → Stated → Type 0
FollowsOn None claim = Unit {0}
FollowsOn (Some left) claim = left ≡ first_stack claim.inputs

-- what the two files of a link say: a claim that follows what the link before left, and a trace that is accepted for it
pub record LinkSays (m : Files) (constants : List ℕ) (left : Option (List ℕ)) (link : ChainLink) (judged : Judged) : Type 0 where
  pub table_says : FileSays m link.table most_table_bytes trace_of judged.trace
  pub statement_says : FileSays m link.statement most_statement_bytes statement_of judged.claim
  pub follows : FollowsOn left judged.claim
  pub found : IsAcceptedFor constants judged.claim judged.trace

-- what the files of all links say, each behind the one before
abbrev pub LinksSay : Files → List ℕ → Option (List ℕ) → List ChainLink → List Judged → Type 0
LinksSay m constants left [] [] = Unit {0}
LinksSay m constants left (link ∷ links) (judged ∷ later) =
    LinkSays m constants left link judged × LinksSay m constants (Some judged.claim.outputs) links later
LinksSay m constants left [] (judged ∷ later) = ⊥
LinksSay m constants left (link ∷ links) [] = ⊥

-- the files of the list are a chain: each statement follows the one before, and each trace is accepted for its statement
pub record IsGoodChain (m : Files) (params list evidence : List ℕ) : Type 0 where
  pub constants : List ℕ
  pub lines : List (List (List ℕ))
  pub judged : List Judged
  pub params_say : FileSays m params most_params_bytes parameters_of constants
  pub list_says : FileSays m list most_list_bytes (links_of (chain_given params list evidence)) lines
  pub links_say : LinksSay m constants None (map chain_link lines) judged

-- The first run begins with the stack that its inputs give. The inputs of a later one give none, and it begins with what the one before left.
abbrev pub BeginsWith : Option (List ℕ) → Given → Given → Type 0
BeginsWith None given begin = begin ≡ given
BeginsWith (Some left) given begin = (given.stack ≡ []) × (begin ≡ record { stack = left; advice = given.advice })

-- The files of a link are there, and the run of its source, from what the link before left, comes to this end within the most cycles of a run.
pub record LinkRuns (m : Files) (constants : List ℕ) (left : Option (List ℕ)) (link : RunLink) (last : State) : Type 0 where
  pub text : List ℕ
  pub given : Given
  pub source_stands : HoldsSource m (record { name = link.source; text = text })
  pub inputs_say : FileSays m link.inputs most_inputs_bytes inputs_of given
  pub begin : Given
  pub begins : BeginsWith left given begin
  pub program : Program
  pub log : List execution.Event
  pub assembled : AssemblesFiles constants (record { name = link.source; text = text }) None (Ok program)
  pub done : outcome_of constants program begin most_cycles ≡ Done last log

-- A link that leaves more than a run may begin with is the last one.
abbrev pub MayGoOn : List RunLink → State → Type 0
MayGoOn [] last = Unit {0}
MayGoOn (link ∷ links) last = length last.core.stack ≤ most_inputs

-- the runs of all links, each from what the one before left, come to these ends
abbrev pub LinksRun : Files → List ℕ → Option (List ℕ) → List RunLink → List State → Type 0
LinksRun m constants left [] [] = Unit {0}
LinksRun m constants left (link ∷ links) (last ∷ later) =
    LinkRuns m constants left link last × MayGoOn links last × LinksRun m constants (Some last.core.stack) links later
LinksRun m constants left [] (last ∷ later) = ⊥
LinksRun m constants left (link ∷ links) [] = ⊥

-- the runs of the list come to their ends
pub record IsGoodRuns (m : Files) (params list : List ℕ) : Type 0 where
  pub constants : List ℕ
  pub lines : List (List (List ℕ))
  pub ends : List State
  pub params_say : FileSays m params most_params_bytes parameters_of constants
  pub list_says : FileSays m list most_list_bytes (links_of (runs_given params list)) lines
  pub links_run : LinksRun m constants None (map run_link lines) ends

abbrev pub IsGood : Files → Asked → Type 0
IsGood m nothing = ⊥
IsGood m (hash params numbers) = IsGoodHash m params numbers
IsGood m (assemble params source kernel) = IsGoodAssembly m params source kernel
IsGood m (run params source inputs outputs kernel limit) = IsGoodRun m params source inputs kernel limit
IsGood m (check params table statement evidence) = IsGoodCheck m params table statement
IsGood m (check_source params table statement evidence source kernel) = IsGoodSourceCheck m params table statement source kernel
IsGood m (make params turns names) = IsGoodMake m params names.source turns
IsGood m (chain params list evidence) = IsGoodChain m params list evidence
IsGood m (runs params list) = IsGoodRuns m params list
IsGood m (member params table statement evidence depth) = IsGoodMember m params table statement depth

-- a read, a write or a print failed, or memory was refused
abbrev pub IsFault : StatusKind → Type 0
IsFault planned = ⊥
IsFault no_command = ⊥
IsFault failed_read = Unit {0}
IsFault failed_write = Unit {0}
IsFault failed_print = Unit {0}
IsFault no_memory = Unit {0}

-- Over good files every command is answered `Ok`, unless something fails.
abbrev pub GoodIsOk : Type 0
GoodIsOk =
    (words : List (List ℕ)) (s : Status) (old new : ShelfState) (before now : SinkState) (m : Files)
    → old.files ≡ Some m → IsGood m (asked words) → Serves words s old new before now → (s ≡ status.Ok) ⊎ IsFault (kind_of s)

-- What is accepted with one value of these constants and this claim is accepted with each.
abbrev pub OneVerdict : Type 0
OneVerdict =
    (constants : List ℕ) (claim : Stated) (trace : Trace) → IsVerdictFor constants claim trace accepted → IsAcceptedFor constants claim trace
