-- What a test of one row answers, and of the rows of a table, or of all tables, whose numbers are from a on and below b.
use Rattle.std.specs.Prelude.{◌≡◌, ◌≢◌, ℕ, ◌<◌, ◌≤◌, length, Option, Some, None}
use Rattle.air_kit.specs.Acceptance.{IsBefore}
use Rattle.air_kit.specs.declared.fault.Fault.{Fault}
use Rattle.air_kit.specs.declared.trace.TableName.{TableName}
use Rattle.air_kit.specs.declared.trace.Trace.{Trace}
use Rattle.air_kit.specs.Places.{Claim}
use Rattle.air_kit.specs.Tables.{table_number}
use Rattle.air_kit.specs.Traces.{rows_of, value_at}
use Rattle.checker.specs.Pieces.{ends_at, number_of, starts_at}
use Rattle.checker.specs.declared.parts.Part.{Part}

-- each entry is 0 at this row
abbrev pub IsZeroRow : Claim → Trace → TableName → ℕ → Type 0
IsZeroRow c t name row = (number : ℕ) → value_at c t name row number ≡ 0

-- an entry of this row that is not 0, and none of a lesser number
pub record IsRowFault (c : Claim) (t : Trace) (name : TableName) (row : ℕ) (f : ℕ × ℕ) : Type 0 where
  pub value_is : f.1 ≡ value_at c t name row f.0
  pub nonzero : f.1 ≢ 0
  pub first : (number : ℕ) → number < f.0 → value_at c t name row number ≡ 0

abbrev pub IsRowAnswer : Claim → Trace → TableName → ℕ → Option (ℕ × ℕ) → Type 0
IsRowAnswer c t name row None = IsZeroRow c t name row
IsRowAnswer c t name row (Some f) = IsRowFault c t name row f

-- each entry is 0 in these rows of a table
abbrev pub IsZeroTable : Claim → Trace → ℕ → ℕ → TableName → Type 0
IsZeroTable c t a b name = (row : ℕ) → row < length (rows_of t name) → a ≤ number_of t name row → number_of t name row < b → IsZeroRow c t name row

-- the first fault of these rows of a table
pub record IsTableFault (c : Claim) (t : Trace) (a b : ℕ) (f : Fault) : Type 0 where
  pub within : f.row < length (rows_of t f.table)
  pub from : a ≤ number_of t f.table f.row
  pub to : number_of t f.table f.row < b
  pub row : IsRowFault c t f.table f.row (f.number, f.value)
  pub earlier : (row : ℕ) → a ≤ number_of t f.table row → row < f.row → IsZeroRow c t f.table row

abbrev pub IsTableAnswer : Claim → Trace → ℕ → ℕ → TableName → Option Fault → Type 0
IsTableAnswer c t a b name None = IsZeroTable c t a b name
IsTableAnswer c t a b name (Some f) = (f.table ≡ name) × IsTableFault c t a b f

-- each entry is 0 in these rows of the tables whose number is below n
abbrev pub AreZeroBelow : Claim → Trace → ℕ → ℕ → ℕ → Type 0
AreZeroBelow c t a b n = (name : TableName) → table_number name < n → IsZeroTable c t a b name

-- each entry is 0 in the rows whose numbers are from a on and below b
abbrev pub AreZeroBetween : Claim → Trace → ℕ → ℕ → Type 0
AreZeroBetween c t a b = (name : TableName) → IsZeroTable c t a b name

-- the least place in these rows whose entry is not 0
pub record IsPieceFault (c : Claim) (t : Trace) (a b : ℕ) (f : Fault) : Type 0 where
  pub within : f.row < length (rows_of t f.table)
  pub value_is : f.value ≡ value_at c t f.table f.row f.number
  pub nonzero : f.value ≢ 0
  pub from : a ≤ number_of t f.table f.row
  pub to : number_of t f.table f.row < b
  pub first : (name : TableName) (row number : ℕ) → row < length (rows_of t name) → a ≤ number_of t name row → IsBefore name row number f
      → value_at c t name row number ≡ 0

-- what a test of these rows answers
abbrev pub IsPieceAnswer : Claim → Trace → ℕ → ℕ → Option Fault → Type 0
IsPieceAnswer c t a b None = AreZeroBetween c t a b
IsPieceAnswer c t a b (Some f) = IsPieceFault c t a b f

-- what a test of the rows of some pieces answers
abbrev pub IsPartAnswer : Claim → Trace → Part → Option Fault → Type 0
IsPartAnswer c t part r = IsPieceAnswer c t (starts_at t part) (ends_at t part) r
