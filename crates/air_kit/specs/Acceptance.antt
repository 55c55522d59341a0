-- An accepted trace, and the first refusal of another one (docs/CONSTRAINTS.md).
use Rattle.std.specs.Prelude.{◌≡◌, ◌≢◌, ℕ, ◌+◌, ◌<◌, List, [], ◌∷◌, length, Option, Some, None}
use Rattle.buses.specs.Counts.{Counted, AreAlike, IsLeastApart, counted, over_rows, with_next}
use Rattle.buses.specs.Names.{bus_number}
use Rattle.buses.specs.declared.bus.Bus.{Bus}
use Rattle.buses.specs.declared.bus.Bus.TheVariants as bus
use Rattle.air_kit.specs.declared.trace.Public.{Public}
use Rattle.air_kit.specs.declared.trace.TableName.{TableName}
use Rattle.air_kit.specs.declared.trace.Trace.{Trace}
use Rattle.air_kit.specs.declared.fault.Fault.{Fault}
use Rattle.air_kit.specs.Tables.{every_chip, sum_over, table_number}
use Rattle.air_kit.specs.Places.{Claim}
use Rattle.air_kit.specs.DeepCells.{tuples_at_start}
use Rattle.air_kit.specs.Traces.{rows_of, claim_of, value_at}
use Rattle.air_kit.specs.MainTuples.{child, main_given, main_asked}
use Rattle.air_kit.specs.ChipTuples.{chip_given, chip_asked}

-- each entry is 0 at each row
abbrev pub AreZero : Claim → Trace → Type 0
AreZero c t = (name : TableName) (row number : ℕ) → row < length (rows_of t name) → value_at c t name row number ≡ 0

-- how often a tuple counts over the small tables
abbrev pub over_chips : (TableName → List (List ℕ) → ℕ) → Trace → ℕ
over_chips count t = sum_over every_chip (λ name. count name (rows_of t name))

-- the statement gives its digest as the child of no block, and the inputs below the sixteenth
abbrev pub statement_given : Bus → Claim → List Counted
statement_given bus.Blocks c = []
statement_given bus.Children c = child 0 c.digest 0 ∷ []
statement_given bus.Loops c = []
statement_given bus.Groups c = []
statement_given bus.Overflow c = tuples_at_start c
statement_given bus.Hasher c = []
statement_given bus.Bitwise c = []
statement_given bus.Memory c = []
statement_given bus.Range c = []
statement_given bus.Kernel c = []

-- how often a tuple is asked on a bus
unfoldable pub asked_on : Claim → Trace → Bus → List ℕ → ℕ
asked_on c t bus u =
    over_rows (with_next (main_asked bus)) t.main u + over_chips (λ name rows. over_rows (chip_asked c bus name) rows u) t

-- how often it is given
unfoldable pub given_on : Claim → Trace → Bus → List ℕ → ℕ
given_on c t bus u =
    counted (statement_given bus c) u + over_rows (with_next (main_given bus)) t.main u
    + over_chips (λ name rows. over_rows (chip_given bus name) rows u) t

-- each entry is 0, and on each bus each tuple is asked as often as it is given
pub record IsAccepted (p : Public) (t : Trace) : Type 0 where
  pub zero : AreZero (claim_of p t) t
  pub buses : (bus : Bus) → AreAlike (asked_on (claim_of p t) t bus) (given_on (claim_of p t) t bus)

-- places are ordered by table, then row, then number
pub data IsBefore (name : TableName) (row number : ℕ) (f : Fault) : Type 0 where
  by_table : table_number name < table_number f.table → IsBefore name row number f
  by_row : name ≡ f.table → row < f.row → IsBefore name row number f
  by_number : name ≡ f.table → row ≡ f.row → number < f.number → IsBefore name row number f

-- the least place whose entry is not 0
pub record IsFirstFault (c : Claim) (t : Trace) (f : Fault) : Type 0 where
  pub within : f.row < length (rows_of t f.table)
  pub value_is : f.value ≡ value_at c t f.table f.row f.number
  pub nonzero : f.value ≢ 0
  pub first : (name : TableName) (row number : ℕ) → row < length (rows_of t name) → IsBefore name row number f
      → value_at c t name row number ≡ 0

-- what a test of all rows answers: the first fault, or none where there is none
abbrev pub IsRowsAnswer : Claim → Trace → Option Fault → Type 0
IsRowsAnswer c t None = AreZero c t
IsRowsAnswer c t (Some f) = IsFirstFault c t f

-- the least bus on which a tuple is not asked as often as given, and on it the least such tuple
pub record IsBusRefusal (p : Public) (t : Trace) (bus : Bus) (tuple : List ℕ) (asked given : ℕ) : Type 0 where
  pub zero : AreZero (claim_of p t) t
  pub earlier : (other : Bus) → bus_number other < bus_number bus
      → AreAlike (asked_on (claim_of p t) t other) (given_on (claim_of p t) t other)
  pub least : IsLeastApart (asked_on (claim_of p t) t bus) (given_on (claim_of p t) t bus) tuple asked given
