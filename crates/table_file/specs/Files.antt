-- Table files (docs/FORMATS.md): the trace that bytes read as, and the bytes of a trace.
use Rattle.std.specs.Prelude.{ℕ, ◌+◌, ◌*◌, ◌^◌, ◌≤◌, Bool, ◌==◌, ◌&&◌, ◌||◌, nat_le, nat_lt, if◌then◌else◌, List, [], ◌∷◌, ◌++◌, drop, length, sum, codes, Result, Ok, Err}
use Rattle.byteorder.specs.Endian.{little_number, little_bytes}
use Rattle.vm_table.specs.Layout.{IsTable}
use Rattle.air_kit.specs.Tables.{columns, every_table}
use Rattle.air_kit.specs.Traces.{lengths_of, most_rows, rows_of}
use Rattle.air_kit.specs.declared.trace.TableName.{TableName}
use Rattle.air_kit.specs.declared.trace.TableName.TheVariants as table
use Rattle.air_kit.specs.declared.trace.Trace.{Trace}
use Rattle.air_kit.specs.Counts.{may_have}
use Rattle.table_file.specs.declared.cause.FileCause.TheVariants as cause
use Rattle.table_file.specs.declared.cause.FileError.{FileError}
use Rattle.table_file.specs.declared.cause.FileError.TheVariants.{Bad}
use Rattle.table_file.specs.Fields.{behind, number_at, parts_bytes, rows_at, table_bytes}

-- the rows of each table have its columns, and are made of elements
abbrev pub AreTables : Trace → Type 0
AreTables t = (name : TableName) → IsTable (columns name) (rows_of t name)

-- the bytes `MDTB`, as a number
abbrev pub magic : ℕ
magic = little_number 4 (codes "MDTB")

-- the older version, which is read
abbrev pub first_version : ℕ
first_version = 1

-- the version that is written, and read
abbrev pub this_version : ℕ
this_version = 2

abbrev pub is_version : ℕ → Bool
is_version n = n == first_version || n == this_version

-- how many rows a table has at most in a file of a version; the first one has at most half as many cells left
abbrev pub most_in : ℕ → TableName → ℕ
most_in version table.Left = if version == first_version then 2 ^ 19 else most_rows table.Left
most_in version name = most_rows name

-- a table may have so many rows in a file of a version
unfoldable pub may_have_in : ℕ → TableName → ℕ → Bool
may_have_in version name count = may_have name count && nat_le count (most_in version name)

-- the row count of a table
abbrev pub count_at : List ℕ → ℕ → TableName → ℕ → Result ℕ FileError
count_at bytes version name at = number_at bytes 4 cause.Count (may_have_in version name) at

-- the row counts of tables, one after the other
unfoldable pub counts_at : List ℕ → ℕ → List TableName → ℕ → Result (List ℕ) FileError
counts_at bytes version [] at = Ok []
counts_at bytes version (name ∷ names) at =
    behind (count_at bytes version name at) (λ count. behind (counts_at bytes version names (at + 4)) (λ counts. Ok (count ∷ counts)))

-- `MDTB`, a version, and the row counts, of which the version has the limits
unfoldable pub head_of : List ℕ → Result (List ℕ) FileError
head_of bytes =
    behind (number_at bytes 4 cause.Magic (λ n. n == magic) 0) (λ _.
    behind (number_at bytes 4 cause.Version is_version 4) (λ version. counts_at bytes version every_table 8))

-- a value, where no byte stands behind a place
unfoldable pub ended_at : {A : Type 0} → List ℕ → ℕ → A → Result A FileError
ended_at bytes at x = if nat_lt at (length bytes) then Err (Bad at cause.Extra) else Ok x

-- a trace with no rows
abbrev pub no_rows : Trace
no_rows = record { main = []; range = []; hasher = []; bitwise = []; memory = []; kernel = []; left = [] }

-- a trace whose rows of a table are these
abbrev pub with_rows : TableName → List (List ℕ) → Trace → Trace
with_rows table.Main rows t = record t { main = rows }
with_rows table.Range rows t = record t { range = rows }
with_rows table.Hasher rows t = record t { hasher = rows }
with_rows table.Bitwise rows t = record t { bitwise = rows }
with_rows table.Memory rows t = record t { memory = rows }
with_rows table.Kernel rows t = record t { kernel = rows }
with_rows table.Left rows t = record t { left = rows }

-- The tables from a place on, each with so many rows, which go behind those of a trace. No byte stands behind the last table.
unfoldable pub tables_from : List ℕ → List TableName → List ℕ → ℕ → Trace → Result Trace FileError
tables_from bytes [] counts at t = ended_at bytes at t
tables_from bytes (name ∷ names) [] at t = ended_at bytes at t
tables_from bytes (name ∷ names) (count ∷ counts) at t =
    behind (rows_at bytes (columns name) count at)
    (λ rows. tables_from bytes names counts (at + 8 * columns name * count) (with_rows name (rows_of t name ++ rows) t))

-- the trace that bytes read as, or the first bad field
unfoldable pub trace_of : List ℕ → Result Trace FileError
trace_of bytes = behind (head_of bytes) (λ counts. tables_from bytes every_table counts 36 no_rows)

-- a number of 32 bits, lowest byte first
abbrev pub count_bytes : ℕ → List ℕ
count_bytes n = little_bytes 4 n

-- `MDTB`, the version and the row counts
unfoldable pub head_bytes : ℕ → List ℕ → List ℕ
head_bytes version counts = codes "MDTB" ++ (count_bytes version ++ parts_bytes count_bytes counts)

-- the table file of a trace that says a version
unfoldable pub bytes_in : ℕ → Trace → List ℕ
bytes_in version t = head_bytes version (lengths_of t) ++ parts_bytes (λ name. table_bytes (rows_of t name)) every_table

-- the table file of a trace, as it is written
abbrev pub bytes_of : Trace → List ℕ
bytes_of t = bytes_in this_version t

-- the version that bytes say
abbrev pub version_of : List ℕ → ℕ
version_of bytes = little_number 4 (drop 4 bytes)

-- no table has more rows than files of a version have
abbrev pub FitsVersion : ℕ → Trace → Type 0
FitsVersion version t = (name : TableName) → length (rows_of t name) ≤ most_in version name

-- a bound of the row counts, by which places stay small
abbrev pub AreFew : List ℕ → Type 0
AreFew counts = sum counts ≤ 2 ^ 24
