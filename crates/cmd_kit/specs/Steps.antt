-- The steps of a command: the files that it reads and writes, one after the other, and how it ends.
use Rattle.std.specs.Prelude.{ℕ, Bool, List, ◌++◌, codes, Option}
use Rattle.vm_field.specs.Machine.{State}
use Rattle.block_tree.specs.Execution as run
use Rattle.block_tree.specs.Trees.{Tree}
use Rattle.block_tree.specs.declared.program.Program.{Program}
use Rattle.cmd_kit.specs.declared.status.Status.{Status}
use Rattle.cmd_kit.specs.declared.answer.Answer.{Answer}
use Rattle.statement.specs.Inputs.{Given}
use Rattle.statement.specs.Statements.{Stated}
use Rattle.air_kit.specs.declared.trace.Trace.{Trace}
use Rattle.checker.specs.declared.refusal.Refused.{Refused}
use Rattle.masm_link.specs.declared.refusal.AsmCause.{AsmCause}

-- a file of source: its name and its bytes
pub record SourceFile : Type 0 where
  pub name : List ℕ
  pub text : List ℕ

-- where a source or its kernel is refused, and why
pub record SourceRefusal : Type 0 where
  pub in_kernel : Bool
  pub line : ℕ
  pub column : ℕ
  pub cause : AsmCause

-- What the files of a command lead to. Each command has its own kind of end.
pub data End : Type 0 where
  -- a status and a line that are determined
  stop : (s : Status) (line : List ℕ) → End
  -- a source is assembled under these constants, with a kernel where there is one
  assembly : (constants : List ℕ) (source : SourceFile) (kernel : Option SourceFile) → End
  -- it is told what evidence was written for a trace, under these constants, of what is claimed
  telling : (constants : List ℕ) (claim : Stated) (trace : Trace) (written : List ℕ) → End
  -- the same of evidence for this tree; of a run it is told by the line `ran`
  telling_source : (constants : List ℕ) (claim : Stated) (trace : Trace) (tree : Tree) (ran written : List ℕ) → End

-- a trace, and what is claimed of it
pub record Judged : Type 0 where
  pub claim : Stated
  pub trace : Trace

-- Which bytes are right for a file that is written. There may be several.
pub data Right : Type 0 where
  -- these and no others
  exactly : (bytes : List ℕ) → Right
  -- the tables of a run that ended in a state with this log, under these constants and with this kernel
  tables_of : (constants : List ℕ) (kernel : List (List ℕ)) (last : State) (log : List run.Event) → Right
  -- the text of what is claimed
  statement_of : (claim : Stated) → Right
  -- the text of evidence for a trace, under these constants, of what is claimed
  evidence_for : (constants : List ℕ) (claim : Stated) (trace : Trace) → Right
  -- the text of evidence for this tree, from that of a trace, under these constants, of what is claimed
  source_evidence_for : (constants : List ℕ) (claim : Stated) (trace : Trace) (tree : Tree) → Right
  -- the text of evidence for each link of a chain, in order, under these constants
  chain_evidence : (constants : List ℕ) (judged : List Judged) → Right

-- What is looked into between two steps, with no call of the shelf.
pub data Question : Type 0 where
  -- whether a trace is accepted, under these constants, for what is claimed
  checked : (constants : List ℕ) (claim : Stated) (trace : Trace) → Question
  -- what a source comes to that is assembled under these constants, with a kernel where there is one
  sourced : (constants : List ℕ) (source : SourceFile) (kernel : Option SourceFile) → Question
  -- how a source runs that is assembled under these constants, with a kernel where there is one, on these inputs within so many cycles
  course : (constants : List ℕ) (source : SourceFile) (kernel : Option SourceFile) (given : Given) (limit : ℕ) → Question
  -- whether a source is refused, with a kernel where there is one; the constants do not decide it
  refusal : (source : SourceFile) (kernel : Option SourceFile) → Question

-- what is found of a trace
pub data Verdict : Type 0 where
  accepted : Verdict
  refused : (why : Refused) → Verdict

-- what is found of a source that is assembled
pub data Build : Type 0 where
  built : (program : Program) → Build
  -- it is refused, which is the command's answer
  unbuilt : (answer : Answer) → Build

-- what is found of a source that is to be run
pub data Course : Type 0 where
  -- its program ran to the end, in this state and with this log
  ran : (program : Program) (last : State) (log : List run.Event) → Course
  -- there was no such run, which is the command's answer
  stopped : (answer : Answer) → Course

-- what may be found
abbrev pub Finding : Question → Type 0
Finding (checked constants claim trace) = Verdict
Finding (sourced constants source kernel) = Build
Finding (course constants source kernel given limit) = Course
Finding (refusal source kernel) = Option SourceRefusal

-- What was read, written and found decides how the steps go on.
pub data Steps : Type 0 where
  -- a file of at most so many bytes is read
  reading : (name : List ℕ) (most : ℕ) (next : List ℕ → Steps) → Steps
  -- right bytes are written
  writing : (name : List ℕ) (right : Right) (next : List ℕ → Steps) → Steps
  -- something is looked into
  asking : (question : Question) (next : Finding question → Steps) → Steps
  ending : (end : End) → Steps

abbrev pub ends_with : Status → List ℕ → Answer
ends_with s line = record { status = s; line = line }

-- a text and a name behind it, as one line
abbrev pub named_line : List ℕ → List ℕ → List ℕ
named_line text name = text ++ name ++ codes "\n"
