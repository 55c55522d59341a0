-- What `serve` leaves, for each answer.
use Rattle.std.specs.Prelude.{◌≡◌, ◌⊎◌, ℕ, ◌<◌, ◌≤◌, List, codes, length, take, Option, Some, None, IfSome}
use Rattle.std.specs.FinMap.{get}
use Rattle.vm_io.specs.Count.{Rose}
use Rattle.vm_io.specs.Shelf.{Files, ShelfState, with_file}
use Rattle.vm_io.specs.Sink.{SinkState, SinkFails, with_piece}
use Rattle.cmd_kit.specs.declared.status.Status.{Status}
use Rattle.cmd_kit.specs.declared.status.Status.TheVariants as status
use Rattle.cmd_kit.specs.declared.answer.Answer.{Answer}
use Rattle.cmd_kit.specs.Statuses.{StatusKind, planned, no_command, failed_read, failed_write, failed_print, no_memory, kind_of}
use Rattle.cmd_kit.specs.Asked.{asked}
use Rattle.cmd_kit.specs.Steps.{Finding, Question, Right, Steps, reading, writing, asking, ending, ends_with, named_line}
use Rattle.cmd_kit.specs.Commands.{steps_of, EndsAs, Finds, IsRight}

-- as far as the files are told, this stands under the name
abbrev pub Holds : Option Files → List ℕ → Option (List ℕ) → Type 0
Holds told name file = IfSome told (λ m. get m name ≡ file)

-- Without a fault the steps lead from files m to files n, with the steps `left` still to come.
-- A shelf that does not tell its files may give any bytes.
pub data Passes : Steps → Option Files → Steps → Option Files → Type 0 where
  none_yet : {steps : Steps} {m : Option Files} → Passes steps m steps m
  past_read : (name : List ℕ) (most : ℕ) (next : List ℕ → Steps) (bytes : List ℕ) {m n : Option Files} {left : Steps}
      → Holds m name (Some bytes) → length bytes ≤ most → Passes (next bytes) m left n → Passes (reading name most next) m left n
  past_write : (name : List ℕ) (right : Right) (next : List ℕ → Steps) (bytes : List ℕ) {m n : Option Files} {left : Steps}
      → IsRight right bytes → Passes (next bytes) (with_file m name bytes) left n → Passes (writing name right next) m left n
  past_finding : (question : Question) (next : Finding question → Steps) (finding : Finding question) {m n : Option Files} {left : Steps}
      → Finds question finding → Passes (next finding) m left n → Passes (asking question next) m left n

-- The steps come to a place where P holds of those that are left and of the files.
pub record ComesWhere (steps : Steps) (P : Steps → Option Files → Type 0) (m : Option Files) : Type 0 where
  pub left : Steps
  pub now : Option Files
  pub passes : Passes steps m left now
  pub there : P left now

-- the answer to a file that is missing, or too long
abbrev pub RefusesFile : List ℕ → ℕ → Option (List ℕ) → Answer → Type 0
RefusesFile name most None a = a ≡ ends_with status.Missing (named_line (codes "missing ") name)
RefusesFile name most (Some bytes) a = (most < length bytes) × (a ≡ ends_with status.TooLong (named_line (codes "too long ") name))

-- The next step is the last one, with this answer.
abbrev pub Concludes : Steps → Option Files → Answer → Type 0
Concludes (reading name most next) m a = (file : Option (List ℕ)) × Holds m name file × RefusesFile name most file a
Concludes (writing name right next) m a = ⊥
Concludes (asking question next) m a = ⊥
Concludes (ending end) m a = EndsAs end a

-- the next step reads this file
abbrev pub IsReading : List ℕ → Steps → Type 0
IsReading wanted (reading name most next) = wanted ≡ name
IsReading wanted (writing name right next) = ⊥
IsReading wanted (asking question next) = ⊥
IsReading wanted (ending end) = ⊥

-- the next step writes this file, and these bytes are right
abbrev pub IsWriting : List ℕ → List ℕ → Steps → Type 0
IsWriting wanted bytes (reading name most next) = ⊥
IsWriting wanted bytes (writing name right next) = (wanted ≡ name) × IsRight right bytes
IsWriting wanted bytes (asking question next) = ⊥
IsWriting wanted bytes (ending end) = ⊥

pub record NoFault (old new : ShelfState) : Type 0 where
  pub reads : new.read_faults ≡ old.read_faults
  pub writes : new.write_faults ≡ old.write_faults

pub record OnlyReadFault (old new : ShelfState) : Type 0 where
  pub reads : Rose old.read_faults new.read_faults
  pub writes : new.write_faults ≡ old.write_faults

pub record OnlyWriteFault (old new : ShelfState) : Type 0 where
  pub reads : new.read_faults ≡ old.read_faults
  pub writes : Rose old.write_faults new.write_faults

-- The steps went to their end, which is this answer.
pub record Ends (steps : Steps) (a : Answer) (old new : ShelfState) : Type 0 where
  pub counts : NoFault old new
  pub files : ComesWhere steps (λ left now. Concludes left now a × (new.files ≡ now)) old.files

-- The steps stopped behind one of them, without a fault.
pub record Stops (steps : Steps) (old new : ShelfState) : Type 0 where
  pub counts : NoFault old new
  pub files : ComesWhere steps (λ left now. new.files ≡ now) old.files

-- The read of this file failed when its turn had come.
pub record FailsAtRead (steps : Steps) (name : List ℕ) (old new : ShelfState) : Type 0 where
  pub counts : OnlyReadFault old new
  pub told : IfSome new.failed_name (λ failed. failed ≡ name)
  pub files : ComesWhere steps (λ left now. IsReading name left × (new.files ≡ now)) old.files

-- a front of right bytes stands under the name, and the writes before it are whole
pub record FrontWritten (name : List ℕ) (left : Steps) (before now : Option Files) : Type 0 where
  pub bytes : List ℕ
  pub right : IsWriting name bytes left
  pub front : ℕ
  pub files : now ≡ with_file before name (take front bytes)

-- The write of this file failed when its turn had come.
pub record FailsAtWrite (steps : Steps) (name : List ℕ) (old new : ShelfState) : Type 0 where
  pub counts : OnlyWriteFault old new
  pub told : IfSome new.failed_name (λ failed. failed ≡ name)
  pub files : ComesWhere steps (λ left before. FrontWritten name left before new.files) old.files

-- The work of a command, before its answer is printed, by the kind of the answer's status.
abbrev pub Works : Option Steps → StatusKind → Answer → ShelfState → ShelfState → Type 0
Works None no_command a old new = (a.line ≡ codes "usage\n") × (new ≡ old)
Works (Some steps) planned a old new = Ends steps a old new
Works (Some steps) failed_read a old new = (name : List ℕ) × FailsAtRead steps name old new × (a.line ≡ named_line (codes "read fault ") name)
Works (Some steps) failed_write a old new = (name : List ℕ) × FailsAtWrite steps name old new × (a.line ≡ named_line (codes "write fault ") name)
Works steps kind a old new = ⊥

-- Memory was refused: no call of the shelf had failed, or one read, or one write.
abbrev pub GivesUp : Option Steps → ShelfState → ShelfState → Type 0
GivesUp None old new = new ≡ old
GivesUp (Some steps) old new =
    Stops steps old new ⊎ (((name : List ℕ) × FailsAtRead steps name old new) ⊎ ((name : List ℕ) × FailsAtWrite steps name old new))

-- The work was done and its line was printed.
pub record Prints (steps : Option Steps) (s : Status) (old new : ShelfState) (before now : SinkState) : Type 0 where
  pub line : List ℕ
  pub works : Works steps (kind_of s) (ends_with s line) old new
  pub taken : now ≡ record before { taken = with_piece before.taken line }

-- The work was done, with an answer of its own, and the sink failed to take its line.
pub record FailsToPrint (steps : Option Steps) (old new : ShelfState) (before now : SinkState) : Type 0 where
  pub answer : Answer
  pub works : Works steps (kind_of answer.status) answer old new
  pub failed : SinkFails before now answer.line

-- Memory was refused, and nothing was printed.
pub record PrintsNothing (steps : Option Steps) (old new : ShelfState) (before now : SinkState) : Type 0 where
  pub gives_up : GivesUp steps old new
  pub taken : now ≡ before

abbrev pub ServesAs : StatusKind → Option Steps → Status → ShelfState → ShelfState → SinkState → SinkState → Type 0
ServesAs failed_print steps s old new before now = FailsToPrint steps old new before now
ServesAs no_memory steps s old new before now = PrintsNothing steps old new before now
ServesAs kind steps s old new before now = Prints steps s old new before now

-- `serve` with these words ended so, from the old shelf and sink to the new ones.
abbrev pub Serves : List (List ℕ) → Status → ShelfState → ShelfState → SinkState → SinkState → Type 0
Serves words s old new before now = ServesAs (kind_of s) (steps_of (asked words)) s old new before now
