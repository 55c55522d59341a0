-- What a shelf is seen as, and what its calls do to it. A name is the list of its bytes.
use Rattle.std.specs.Prelude.{◌≡◌, ℕ, ◌<◌, ◌≤◌, List, length, take, Option, Some, None, IfSome, IsSomeAnd, Result, Ok, Err}
use Rattle.std.specs.Option.{option_map}
use Rattle.std.specs.Ordering.{nat_cmp}
use Rattle.std.specs.Cmp.Lexicographic.{slice_cmp}
use Rattle.std.specs.FinMap.{FinMap, get, insert}
use Rattle.vm_field.specs.Limits.{most_name_bytes}
use Rattle.vm_io.specs.Count.{Rose}
use Rattle.vm_io.specs.declared.shelf.ReadStop.{ReadStop}
use Rattle.vm_io.specs.declared.shelf.ReadStop.TheVariants as read
use Rattle.vm_io.specs.declared.shelf.WriteStop.{WriteStop}
use Rattle.vm_io.specs.declared.shelf.WriteStop.TheVariants as write

-- the bytes under each name
abbrev pub Files : Type 0
Files = FinMap (slice_cmp nat_cmp) (List ℕ)

-- A shelf may leave untold what files it holds, and which name failed last.
pub record ShelfState : Type 0 where
  pub files : Option Files
  pub read_faults : ℕ
  pub write_faults : ℕ
  pub failed_name : Option (List ℕ)  -- empty before the first call that failed

-- what holds of the files, where they are told
abbrev pub Told : ShelfState → (Files → Type 0) → Type 0
Told s P = IfSome s.files P

-- the part of a name that a shelf keeps
abbrev pub kept_name : List ℕ → List ℕ
kept_name name = take most_name_bytes name

-- the last failed name becomes this one, where it is told
abbrev pub with_failed_name : Option (List ℕ) → List ℕ → Option (List ℕ)
with_failed_name told name = option_map (λ _. kept_name name) told

-- these bytes stand under the name, and every other file stays
abbrev pub with_file : Option Files → List ℕ → List ℕ → Option Files
with_file told name bytes = option_map (λ m. insert m name bytes) told

-- a read that gave the file's bytes
pub record Reads (old new : ShelfState) (name : List ℕ) (max : ℕ) (bytes : List ℕ) : Type 0 where
  pub same : new ≡ old
  pub within : length bytes ≤ max
  pub file : Told old (λ m. get m name ≡ Some bytes)

-- a read that failed
pub record ReadFails (old new : ShelfState) (name : List ℕ) : Type 0 where
  pub files : new.files ≡ old.files
  pub read_faults : Rose old.read_faults new.read_faults
  pub write_faults : new.write_faults ≡ old.write_faults
  pub failed_name : new.failed_name ≡ with_failed_name old.failed_name name

-- A read of at most max bytes, by what it answers.
abbrev pub ReadStep : ShelfState → ShelfState → List ℕ → ℕ → Result (List ℕ) ReadStop → Type 0
ReadStep old new name max (Ok bytes) = Reads old new name max bytes
ReadStep old new name max (Err read.Missing) = (new ≡ old) × Told old (λ m. get m name ≡ None)
ReadStep old new name max (Err read.TooLong) = (new ≡ old) × Told old (λ m. IsSomeAnd (get m name) (λ bytes. max < length bytes))
ReadStep old new name max (Err read.Failed) = ReadFails old new name
ReadStep old new name max (Err read.Memory) = new ≡ old

-- A read of at most max bytes that a taker took, by what it answers.
abbrev pub TakenStep : ShelfState → ShelfState → List ℕ → ℕ → (List ℕ → Type 0) → Result (Unit {0}) ReadStop → Type 0
TakenStep old new name max took (Ok _) = (bytes : List ℕ) × Reads old new name max bytes × took bytes
TakenStep old new name max took (Err stop) = ReadStep old new name max (Err stop)

-- a write that failed: a front of the bytes stands under the name
pub record WriteFails (old new : ShelfState) (name bytes : List ℕ) : Type 0 where
  pub front : ℕ
  pub files : new.files ≡ with_file old.files name (take front bytes)
  pub read_faults : new.read_faults ≡ old.read_faults
  pub write_faults : Rose old.write_faults new.write_faults
  pub failed_name : new.failed_name ≡ with_failed_name old.failed_name name

-- A write of these bytes, by what it answers.
abbrev pub WriteStep : ShelfState → ShelfState → List ℕ → List ℕ → Result (Unit {0}) WriteStop → Type 0
WriteStep old new name bytes (Ok _) = new ≡ record old { files = with_file old.files name bytes }
WriteStep old new name bytes (Err write.Failed) = WriteFails old new name bytes
WriteStep old new name bytes (Err write.Memory) = new ≡ old
