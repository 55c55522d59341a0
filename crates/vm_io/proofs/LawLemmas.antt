-- The laws of `specs/Laws`, by the cases of an answer.
use Rattle.std.proofs.Common.{◌≡◌, ℕ, ◌<◌, ◌≤◌, List, length, take, refl, ap, sym, subst, arith, ◌∙◌}
use Rattle.std.specs.Prelude.{Option, Some, None, IfSome, IsSomeAnd, Ok, Err}
use Rattle.std.specs.FinMap.{get, insert}
use Rattle.std.proofs.lemmas.Bool.{cond-true, cond-false, le-leb, lt-leb}
use Rattle.vm_io.specs.Shelf.{Files, ShelfState, Told, with_file}
use Rattle.vm_io.specs.Laws.{answer_at, FilesDecide, ReadsLeaveFiles, Puts, WholeStands, FrontStands, ReadsNeverLower, WritesNeverLower, PiecesNeverLower, RiseShows}
use Rattle.vm_io.specs.declared.shelf.ReadStop.TheVariants as read
use Rattle.vm_io.specs.declared.shelf.WriteStop.TheVariants as write
use Rattle.vm_io.specs.declared.sink.SinkStop.TheVariants as sink
use Rattle.vm_io.proofs.ShelfLemmas.{get_put, get_beside, rose_above}

-- what is known of the file at a told name decides the answer
whole_answer : (max : ℕ) (bytes : List ℕ) (file : Option (List ℕ)) → file ≡ Some bytes → length bytes ≤ max → Ok bytes ≡ answer_at max file
whole_answer max bytes file is short =
    sym (ap (answer_at max) is ∙ cond-true _ (Ok bytes) (Err read.TooLong) (le-leb (length bytes) max short))

long_answer : (max : ℕ) (file : Option (List ℕ)) → IsSomeAnd file (λ bytes. max < length bytes) → Err read.TooLong ≡ answer_at max file
long_answer max None long = absurd long
long_answer max (Some bytes) long = sym (cond-false _ (Ok bytes) (Err read.TooLong) (lt-leb (length bytes) max long))

told_at : (s : ShelfState) (m : Files) (P : Files → Type 0) → s.files ≡ Some m → Told s P → P m
told_at s m P is told = subst (λ o. IfSome o P) is told

pub files_decide : FilesDecide
files_decide old new m name max (Ok bytes) step is unfailed given =
    whole_answer max bytes _ (told_at old m (λ m. get m name ≡ Some bytes) is step.file) step.within
files_decide old new m name max (Err read.Missing) step is unfailed given =
    ap (answer_at max) (sym (told_at old m (λ m. get m name ≡ None) is step.1))
files_decide old new m name max (Err read.TooLong) step is unfailed given =
    long_answer max _ (told_at old m (λ m. IsSomeAnd (get m name) (λ bytes. max < length bytes)) is step.1)
files_decide old new m name max (Err read.Failed) step is unfailed given = absurd (unfailed refl)
files_decide old new m name max (Err read.Memory) step is unfailed given = absurd (given refl)

pub reads_leave_files : ReadsLeaveFiles
reads_leave_files old new name max (Ok bytes) step = ap (λ s. s.files) step.same
reads_leave_files old new name max (Err read.Missing) step = ap (λ s. s.files) step.0
reads_leave_files old new name max (Err read.TooLong) step = ap (λ s. s.files) step.0
reads_leave_files old new name max (Err read.Failed) step = step.files
reads_leave_files old new name max (Err read.Memory) step = ap (λ s. s.files) step

puts : (m : Files) (name bytes : List ℕ) → Puts m (insert m name bytes) name bytes
puts m name bytes = record { here = get_put m name bytes; beside = get_beside m name bytes }

pub whole_stands : WholeStands
whole_stands old new m name bytes step is =
    (insert m name bytes, ap (λ s. s.files) step ∙ ap (λ told. with_file told name bytes) is, puts m name bytes)

pub front_stands : FrontStands
front_stands old new m name bytes step is =
    let front = take step.front bytes in
    (insert m name front, step.front, step.files ∙ ap (λ told. with_file told name front) is, puts m name front)

same_le : {a b : ℕ} → b ≡ a → a ≤ b
same_le {a} {b} same = omega arith

reads_same : (old new : ShelfState) → new ≡ old → (old.read_faults ≤ new.read_faults) × (new.write_faults ≡ old.write_faults)
reads_same old new same = (same_le (ap (λ s. s.read_faults) same), ap (λ s. s.write_faults) same)

pub reads_never_lower : ReadsNeverLower
reads_never_lower old new name max (Ok bytes) step = reads_same old new step.same
reads_never_lower old new name max (Err read.Missing) step = reads_same old new step.0
reads_never_lower old new name max (Err read.TooLong) step = reads_same old new step.0
reads_never_lower old new name max (Err read.Failed) step = (step.read_faults.later, step.write_faults)
reads_never_lower old new name max (Err read.Memory) step = reads_same old new step

pub writes_never_lower : WritesNeverLower
writes_never_lower old new name bytes (Ok _) step = (ap (λ s. s.read_faults) step, same_le (ap (λ s. s.write_faults) step))
writes_never_lower old new name bytes (Err write.Failed) step = (step.read_faults, step.write_faults.later)
writes_never_lower old new name bytes (Err write.Memory) step = (ap (λ s. s.read_faults) step, same_le (ap (λ s. s.write_faults) step))

pub pieces_never_lower : PiecesNeverLower
pieces_never_lower old new piece (Ok _) step = same_le (ap (λ s. s.faults) step)
pieces_never_lower old new piece (Err sink.Failed) step = step.faults.later
pieces_never_lower old new piece (Err sink.Memory) step = same_le (ap (λ s. s.faults) step)

pub rise_shows : RiseShows
rise_shows = rose_above

pub ruleset read_laws = (files_decide, reads_leave_files)

pub ruleset count_laws = (reads_never_lower, writes_never_lower, pieces_never_lower, rise_shows)
