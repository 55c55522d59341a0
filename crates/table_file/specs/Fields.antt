-- The fields of a table file (docs/FORMATS.md), read in order: each field's value, or the place and the cause of the first bad one.
use Rattle.std.specs.Prelude.{ℕ, zero, suc, ◌+◌, ◌*◌, Bool, nat_lt, if◌then◌else◌, List, [], ◌∷◌, ◌++◌, drop, length, Option, Some, None, Result, Ok, Err}
use Rattle.answers.specs.Gives.{Gives}
use Rattle.byteorder.specs.Endian.{little_number, little_bytes}
use Rattle.vm_field.specs.Field.{prime}
use Rattle.table_file.specs.declared.cause.FileCause.{FileCause}
use Rattle.table_file.specs.declared.cause.FileCause.TheVariants as cause
use Rattle.table_file.specs.declared.cause.FileError.{FileError}
use Rattle.table_file.specs.declared.cause.FileError.TheVariants.{Bad, Memory}

-- what follows a field, where the field is good
abbrev pub behind : {A B : Type 0} → Result A FileError → (A → Result B FileError) → Result B FileError
behind (Ok x) next = next x
behind (Err e) next = Err e

-- what an error says of the file: its bad field, if it tells one
abbrev pub bad_field : FileError → Option FileError
bad_field (Bad offset why) = Some (Bad offset why)
bad_field Memory = None

-- an answer is what the bytes read as
abbrev pub GivesRead : {A : Type 0} → Result A FileError → Result A FileError → Type 0
GivesRead answer read = Gives (λ x. x) bad_field answer read

-- the number in so many bytes from a place on, lowest first, which has to pass a test
unfoldable pub number_at : List ℕ → ℕ → FileCause → (ℕ → Bool) → ℕ → Result ℕ FileError
number_at bytes size why test at =
    if nat_lt (length bytes) (at + size) then Err (Bad at cause.Ended)
    else if test (little_number size (drop at bytes)) then Ok (little_number size (drop at bytes)) else Err (Bad at why)

-- so many parts of so many bytes each
unfoldable pub parts_at : {A : Type 0} → (ℕ → Result A FileError) → ℕ → ℕ → ℕ → Result (List A) FileError
parts_at part size zero at = Ok []
parts_at part size (suc n) at = behind (part at) (λ x. behind (parts_at part size n (at + size)) (λ rest. Ok (x ∷ rest)))

-- an element
abbrev pub element_at : List ℕ → ℕ → Result ℕ FileError
element_at bytes at = number_at bytes 8 cause.Element (λ n. nat_lt n prime) at

-- a row of so many elements
abbrev pub row_at : List ℕ → ℕ → ℕ → Result (List ℕ) FileError
row_at bytes width at = parts_at (element_at bytes) 8 width at

-- so many rows of so many elements
abbrev pub rows_at : List ℕ → ℕ → ℕ → ℕ → Result (List (List ℕ)) FileError
rows_at bytes width count at = parts_at (row_at bytes width) (8 * width) count at

-- the bytes of parts, one after the other
unfoldable pub parts_bytes : {A : Type 0} → (A → List ℕ) → List A → List ℕ
parts_bytes write [] = []
parts_bytes write (x ∷ xs) = write x ++ parts_bytes write xs

-- the bytes of a row
abbrev pub row_bytes : List ℕ → List ℕ
row_bytes row = parts_bytes (little_bytes 8) row

-- the bytes of a table
abbrev pub table_bytes : List (List ℕ) → List ℕ
table_bytes rows = parts_bytes row_bytes rows
