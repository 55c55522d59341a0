-- What it is to count the tuples of the rows of tables.
use Rattle.std.specs.Prelude.{◌≡◌, ℕ, suc, ◌+◌, ◌-◌, ◌*◌, ◌^◌, ◌<◌, ◌≤◌, List, [], length, take, slice_index_or}
use Rattle.air_kit.specs.Acceptance.{asked_on, given_on}
use Rattle.air_kit.specs.ChipTuples.{chip_asked, chip_given}
use Rattle.air_kit.specs.Places.{Claim}
use Rattle.air_kit.specs.Tables.{every_table, sum_over, table_number}
use Rattle.air_kit.specs.Traces.{rows_of}
use Rattle.air_kit.specs.declared.trace.TableName.{TableName}
use Rattle.air_kit.specs.declared.trace.TableName.TheVariants as table
use Rattle.air_kit.specs.declared.trace.Trace.{Trace}
use Rattle.buses.specs.Counts.{OfRow, at_row, over_first}
use Rattle.buses.specs.declared.bus.Bus.{Bus}
use Rattle.bus_kit.specs.ByBus.{AreCounted, asked_by, given_by}
use Rattle.bus_kit.specs.declared.tallies.Tallies.{Tallies}
use Rattle.bus_main.specs.RowTuples.{IsReadable}
use Rattle.bus_main.specs.RowTuples.{main_asked_at, main_given_at}
use Rattle.checker.specs.declared.parts.Part.{Part}
use Rattle.pieces.specs.Cuts.{cut_at}

-- what a row of a table asks on a bus
abbrev pub asked_of : Claim → Bus → TableName → OfRow
asked_of c bus table.Main = main_asked_at bus
asked_of c bus table.Range = chip_asked c bus table.Range
asked_of c bus table.Hasher = chip_asked c bus table.Hasher
asked_of c bus table.Bitwise = chip_asked c bus table.Bitwise
asked_of c bus table.Memory = chip_asked c bus table.Memory
asked_of c bus table.Kernel = chip_asked c bus table.Kernel
asked_of c bus table.Left = chip_asked c bus table.Left

-- what it gives; the first row of the main table stands for the statement too
abbrev pub given_of : Claim → Bus → TableName → OfRow
given_of c bus table.Main = main_given_at c bus
given_of c bus table.Range = chip_given bus table.Range
given_of c bus table.Hasher = chip_given bus table.Hasher
given_of c bus table.Bitwise = chip_given bus table.Bitwise
given_of c bus table.Memory = chip_given bus table.Memory
given_of c bus table.Kernel = chip_given bus table.Kernel
given_of c bus table.Left = chip_given bus table.Left

-- row i of a table was counted
abbrev pub IsRowCounted : Claim → Trace → TableName → ℕ → Tallies → Tallies → Type 0
IsRowCounted c t name i old new =
    AreCounted (2 ^ 66) old new (λ bus. at_row (asked_of c bus name) (rows_of t name) i) (λ bus. at_row (given_of c bus name) (rows_of t name) i)

-- the rows of a table from row i on and below row j were counted
pub record AreRowsCounted (c : Claim) (t : Trace) (name : TableName) (i j : ℕ) (old new : Tallies) : Type 0 where
  pub asked_is : (bus : Bus) (u : List ℕ) → asked_by new bus u + over_first (asked_of c bus name) (rows_of t name) i u
      ≡ asked_by old bus u + over_first (asked_of c bus name) (rows_of t name) j u
  pub given_is : (bus : Bus) (u : List ℕ) → given_by new bus u + over_first (given_of c bus name) (rows_of t name) i u
      ≡ given_by old bus u + over_first (given_of c bus name) (rows_of t name) j u
  pub asked_grows : (bus : Bus) (u : List ℕ) → asked_by new bus u ≤ asked_by old bus u + (j - i) * 2 ^ 66
  pub given_grows : (bus : Bus) (u : List ℕ) → given_by new bus u ≤ given_by old bus u + (j - i) * 2 ^ 66

-- the row of a table with which the share of a piece begins: each table is cut by itself, so that each piece has its share of each
abbrev pub share_at : Trace → TableName → ℕ → ℕ → ℕ
share_at t name piece pieces = cut_at piece (length (rows_of t name)) pieces

-- its rows in some pieces were counted
abbrev pub IsTableCounted : Claim → Trace → Part → TableName → Tallies → Tallies → Type 0
IsTableCounted c t part name old new =
    AreRowsCounted c t name (share_at t name part.low part.pieces) (share_at t name part.high part.pieces) old new

-- no count is above n
abbrev pub AreWithin : ℕ → Tallies → Type 0
AreWithin n t = (bus : Bus) (u : List ℕ) → (asked_by t bus u ≤ n) × (given_by t bus u ≤ n)

-- the most that counts can be where the tables before this one are counted
abbrev pub room_before : TableName → ℕ
room_before name = table_number name * 2 ^ 90

abbrev pub room_behind : TableName → ℕ
room_behind name = suc (table_number name) * 2 ^ 90

-- what the rows in front of the share of piece j of k ask on a bus, in the first n tables
abbrev pub asked_below : Claim → Trace → Bus → ℕ → ℕ → ℕ → List ℕ → ℕ
asked_below c t bus n j k u = sum_over (take n every_table) (λ name. over_first (asked_of c bus name) (rows_of t name) (share_at t name j k) u)

-- and what they give
abbrev pub given_below : Claim → Trace → Bus → ℕ → ℕ → ℕ → List ℕ → ℕ
given_below c t bus n j k u = sum_over (take n every_table) (λ name. over_first (given_of c bus name) (rows_of t name) (share_at t name j k) u)

-- the rows of some pieces in the first n tables were counted, and no other
pub record AreTablesCounted (c : Claim) (t : Trace) (part : Part) (n : ℕ) (tallies : Tallies) : Type 0 where
  pub asked_is : (bus : Bus) (u : List ℕ) → asked_by tallies bus u + asked_below c t bus n part.low part.pieces u ≡ asked_below c t bus n part.high part.pieces u
  pub given_is : (bus : Bus) (u : List ℕ) → given_by tallies bus u + given_below c t bus n part.low part.pieces u ≡ given_below c t bus n part.high part.pieces u
  pub within : AreWithin (n * 2 ^ 90) tallies

-- all rows of some pieces were, and no other
pub record IsPartCounted (c : Claim) (t : Trace) (part : Part) (tallies : Tallies) : Type 0 where
  pub asked_is : (bus : Bus) (u : List ℕ) → asked_by tallies bus u + asked_below c t bus 7 part.low part.pieces u ≡ asked_below c t bus 7 part.high part.pieces u
  pub given_is : (bus : Bus) (u : List ℕ) → given_by tallies bus u + given_below c t bus 7 part.low part.pieces u ≡ given_below c t bus 7 part.high part.pieces u
  pub within : AreWithin ((part.high - part.low) * 2 ^ 93) tallies

-- the tuples of each row of the main table can be read off
abbrev pub AreReadable : List (List ℕ) → Type 0
AreReadable rows = (i : ℕ) → i < length rows → IsReadable (slice_index_or rows i [])

-- all tables and the statement were counted
pub record IsTraceCounted (c : Claim) (t : Trace) (tallies : Tallies) : Type 0 where
  pub asked : (bus : Bus) (u : List ℕ) → asked_by tallies bus u ≡ asked_on c t bus u
  pub given : (bus : Bus) (u : List ℕ) → given_by tallies bus u ≡ given_on c t bus u
