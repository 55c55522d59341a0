-- What follows from the steps of shelves and sinks, whichever they are.
use Rattle.std.specs.Prelude.{◌≡◌, ◌≢◌, ℕ, ◌-◌, ◌^◌, ◌<◌, ◌≤◌, nat_le, if◌then◌else◌, List, length, take, Option, Some, None, Result, Ok, Err}
use Rattle.std.specs.FinMap.{get}
use Rattle.vm_io.specs.Count.{Rose}
use Rattle.vm_io.specs.Shelf.{Files, ShelfState, ReadStep, WriteStep}
use Rattle.vm_io.specs.Sink.{SinkState, SinkStep}
use Rattle.vm_io.specs.declared.shelf.ReadStop.{ReadStop}
use Rattle.vm_io.specs.declared.shelf.ReadStop.TheVariants as read
use Rattle.vm_io.specs.declared.shelf.WriteStop.{WriteStop}
use Rattle.vm_io.specs.declared.shelf.WriteStop.TheVariants as write
use Rattle.vm_io.specs.declared.sink.SinkStop.{SinkStop}

-- what a read of at most max bytes answers, by the file that stands under the name
abbrev pub answer_at : ℕ → Option (List ℕ) → Result (List ℕ) ReadStop
answer_at max None = Err read.Missing
answer_at max (Some bytes) = if nat_le (length bytes) max then Ok bytes else Err read.TooLong

-- Where the files are told, they decide the answer of each read that does not fail.
abbrev pub FilesDecide : Type 0
FilesDecide =
    (old new : ShelfState) (m : Files) (name : List ℕ) (max : ℕ) (result : Result (List ℕ) ReadStop)
    → ReadStep old new name max result → old.files ≡ Some m → result ≢ Err read.Failed → result ≢ Err read.Memory
    → result ≡ answer_at max (get m name)

-- No read changes a file.
abbrev pub ReadsLeaveFiles : Type 0
ReadsLeaveFiles =
    (old new : ShelfState) (name : List ℕ) (max : ℕ) (result : Result (List ℕ) ReadStop)
    → ReadStep old new name max result → new.files ≡ old.files

-- n has these bytes under the name, and otherwise the files of m
pub record Puts (m n : Files) (name bytes : List ℕ) : Type 0 where
  pub here : get n name ≡ Some bytes
  pub beside : (other : List ℕ) → other ≢ name → get n other ≡ get m other

-- What was written whole stands under its name, and every other file stays.
abbrev pub WholeStands : Type 0
WholeStands =
    (old new : ShelfState) (m : Files) (name bytes : List ℕ)
    → WriteStep old new name bytes (Ok tt) → old.files ≡ Some m → (n : Files) × (new.files ≡ Some n) × Puts m n name bytes

-- What failed leaves a front of the bytes under its name, and every other file stays.
abbrev pub FrontStands : Type 0
FrontStands =
    (old new : ShelfState) (m : Files) (name bytes : List ℕ)
    → WriteStep old new name bytes (Err write.Failed) → old.files ≡ Some m
    → (n : Files) × (front : ℕ) × (new.files ≡ Some n) × Puts m n name (take front bytes)

-- No count falls.
abbrev pub ReadsNeverLower : Type 0
ReadsNeverLower =
    (old new : ShelfState) (name : List ℕ) (max : ℕ) (result : Result (List ℕ) ReadStop)
    → ReadStep old new name max result → (old.read_faults ≤ new.read_faults) × (new.write_faults ≡ old.write_faults)

abbrev pub WritesNeverLower : Type 0
WritesNeverLower =
    (old new : ShelfState) (name bytes : List ℕ) (result : Result (Unit {0}) WriteStop)
    → WriteStep old new name bytes result → (new.read_faults ≡ old.read_faults) × (old.write_faults ≤ new.write_faults)

abbrev pub PiecesNeverLower : Type 0
PiecesNeverLower =
    (old new : SinkState) (piece : List ℕ) (result : Result (Unit {0}) SinkStop)
    → SinkStep old new piece result → old.faults ≤ new.faults

-- A rise shows, unless the count had stopped.
abbrev pub RiseShows : Type 0
RiseShows = (before now : ℕ) → Rose before now → before < 2 ^ 64 - 1 → before < now
