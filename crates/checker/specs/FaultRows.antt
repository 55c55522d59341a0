-- The rows of a trace with an entry that is not 0, each told by its first such entry.
use Rattle.std.specs.Prelude.{◌≡◌, ◌≢◌, ℕ, ◌-◌, ◌<◌, ◌≤◌, ◌↔◌, List, [], ◌++◌, length, take, slice_get, Option, Some}
use Rattle.std.specs.List.{Contains, filter_map, flat_map, range_with_len}
use Rattle.std.specs.Option.{option_map}
use Rattle.air_kit.specs.Acceptance.{AreZero, IsFirstFault}
use Rattle.air_kit.specs.Places.{Claim, first_fault_of}
use Rattle.air_kit.specs.Tables.{every_table}
use Rattle.air_kit.specs.Traces.{rows_of, value_at, values_at}
use Rattle.air_kit.specs.declared.fault.Fault.{Fault}
use Rattle.air_kit.specs.declared.trace.TableName.{TableName}
use Rattle.air_kit.specs.declared.trace.Trace.{Trace}

-- the first entry of a row that is not 0, in its place
unfoldable pub fault_of_row : Claim → Trace → TableName → ℕ → Option Fault
fault_of_row c t name row =
    option_map (λ f. record { table = name; row = row; number = f.0; value = f.1 }) (first_fault_of 1 (values_at c t name row))

-- those of the rows of a table from row a on and below row b, in their order
unfoldable pub row_faults : Claim → Trace → TableName → ℕ → ℕ → List Fault
row_faults c t name a b = filter_map (fault_of_row c t name) (range_with_len a (b - a))

-- those of a table
abbrev pub table_faults : Claim → Trace → TableName → List Fault
table_faults c t name = row_faults c t name 0 (length (rows_of t name))

-- those of all tables, in their order
unfoldable pub faults_of : Claim → Trace → List Fault
faults_of c t = flat_map (table_faults c t) every_table

-- behind those that are kept the first of further ones, so that there are no more than so many
abbrev pub kept_with : ℕ → List Fault → List Fault → List Fault
kept_with most kept faults = kept ++ take (most - length kept) faults

-- the first entry of a row that is not 0
pub record IsFaultOfRow (c : Claim) (t : Trace) (f : Fault) : Type 0 where
  pub within : f.row < length (rows_of t f.table)
  pub value_is : f.value ≡ value_at c t f.table f.row f.number
  pub nonzero : f.value ≢ 0
  pub first : (number : ℕ) → number < f.number → value_at c t f.table f.row number ≡ 0

-- no row has such an entry exactly where each entry is 0
abbrev pub NoneWhereZero : Type 0
NoneWhereZero = (c : Claim) (t : Trace) → AreZero c t ↔ (faults_of c t ≡ [])

-- the first row's is the first of the trace
abbrev pub FirstIsFirst : Type 0
FirstIsFirst = (c : Claim) (t : Trace) (f : Fault) → IsFirstFault c t f ↔ (slice_get (faults_of c t) 0 ≡ Some f)

-- they are the first such entries of rows, and no other
abbrev pub EachIsOfRow : Type 0
EachIsOfRow = (c : Claim) (t : Trace) (f : Fault) → Contains (faults_of c t) f ↔ IsFaultOfRow c t f

-- each row with an entry that is not 0 is among them
abbrev pub EachRowIsThere : Type 0
EachRowIsThere = (c : Claim) (t : Trace) (name : TableName) (row number : ℕ) → row < length (rows_of t name) → value_at c t name row number ≢ 0
    → (f : Fault) × Contains (faults_of c t) f × (f.table ≡ name) × (f.row ≡ row)

-- those of rows one behind another
abbrev pub RowsFollow : Type 0
RowsFollow = (c : Claim) (t : Trace) (name : TableName) (a b d : ℕ) → a ≤ b → b ≤ d
    → row_faults c t name a b ++ row_faults c t name b d ≡ row_faults c t name a d
