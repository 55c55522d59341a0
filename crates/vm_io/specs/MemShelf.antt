-- What `MemShelf` is seen as, and what its calls leave.
use Rattle.std.specs.Prelude.{ℕ, ◌/◌, List, [], map, length, take, Some, Result, Ok, Err, refl}
use Rattle.std.specs.FinMap.{insert, empty, from_entries, code}
use Rattle.std.specs.Coded.{Coded, code_by, coded×, coded_list, coded_ℕ}
use Rattle.std.specs.String.{string_bytes}
use Rattle.std.specs.declared.string.String.{String}
use Rattle.vm_io.specs.Count.{one_more}
use Rattle.vm_io.specs.Calls.{CallCounts, no_calls, called}
use Rattle.vm_io.specs.Shelf.{Files, ShelfState, kept_name}
use Rattle.vm_io.specs.declared.shelf.ReadStop.{ReadStop}
use Rattle.vm_io.specs.declared.shelf.ReadStop.TheVariants as read
use Rattle.vm_io.specs.declared.shelf.WriteStop.{WriteStop}
use Rattle.vm_io.specs.declared.shelf.WriteStop.TheVariants as write

pub record HeldFiles : Type 0 where
  pub files : Files
  pub read_faults : ℕ
  pub write_faults : ℕ
  pub failed_name : List ℕ
  pub calls : CallCounts

-- as the tuple of its fields
abbrev pub held_code : Coded HeldFiles
held_code =
    code_by (Files × (ℕ × (ℕ × (List ℕ × (ℕ × List ℕ)))))
    (coded× (code (coded_list coded_ℕ) (coded_list coded_ℕ))
    (coded× coded_ℕ (coded× coded_ℕ (coded× (coded_list coded_ℕ) (coded× coded_ℕ (coded_list coded_ℕ))))))
    (λ s. (s.files, (s.read_faults, (s.write_faults, (s.failed_name, (s.calls.made, s.calls.failing))))))
    (λ p. record {
      files = p.0;
      read_faults = p.1.0;
      write_faults = p.1.1.0;
      failed_name = p.1.1.1.0;
      calls = record { made = p.1.1.1.1.0; failing = p.1.1.1.1.1 };
    })
    (λ _. refl)

-- the files of a map from texts
abbrev pub files_of : {A : Type 0} → List (String A × List ℕ) → Files
files_of entries = from_entries (map (λ e. (string_bytes e.0, e.1)) entries)

-- made by `new`
abbrev pub no_files : HeldFiles
no_files = record { files = empty; read_faults = 0; write_faults = 0; failed_name = []; calls = no_calls }

-- All is told.
abbrev pub told : HeldFiles → ShelfState
told s = record { files = Some s.files; read_faults = s.read_faults; write_faults = s.write_faults; failed_name = Some s.failed_name }

-- behind a call that was counted
abbrev pub counted : HeldFiles → HeldFiles
counted s = record s { calls = called s.calls }

-- with these bytes under the name
abbrev pub put : HeldFiles → List ℕ → List ℕ → HeldFiles
put s name bytes = record s { files = insert s.files name bytes }

abbrev pub with_read_fault : HeldFiles → List ℕ → HeldFiles
with_read_fault s name = record s { read_faults = one_more s.read_faults; failed_name = kept_name name }

abbrev pub with_write_fault : HeldFiles → List ℕ → HeldFiles
with_write_fault s name = record s { write_faults = one_more s.write_faults; failed_name = kept_name name }

-- the first half of the bytes, which a write that fails leaves
abbrev pub half : List ℕ → List ℕ
half bytes = take (length bytes / 2) bytes

-- behind a read, by what it answered
abbrev pub after_read : HeldFiles → List ℕ → Result (List ℕ) ReadStop → HeldFiles
after_read s name (Ok bytes) = counted s
after_read s name (Err read.Missing) = counted s
after_read s name (Err read.TooLong) = counted s
after_read s name (Err read.Failed) = with_read_fault (counted s) name
after_read s name (Err read.Memory) = counted s

-- behind a read whose bytes a taker took, by what it answered
abbrev pub after_pieces : HeldFiles → List ℕ → Result (Unit {0}) ReadStop → HeldFiles
after_pieces s name (Ok _) = counted s
after_pieces s name (Err stop) = after_read s name (Err stop)

-- behind a write, by what it answered
abbrev pub after_write : HeldFiles → List ℕ → List ℕ → Result (Unit {0}) WriteStop → HeldFiles
after_write s name bytes (Ok _) = put (counted s) name bytes
after_write s name bytes (Err write.Failed) = with_write_fault (put (counted s) name (half bytes)) name
after_write s name bytes (Err write.Memory) = counted s
