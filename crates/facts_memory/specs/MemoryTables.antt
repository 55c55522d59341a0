-- Tables of memory whose entries are 0, and what they show.
use Rattle.std.specs.Prelude.{◌≡◌, ℕ, zero, suc, ◌^◌, ◌<◌, ◌≤◌, List, length, map, All, Option, Some, None, slice_index_or}
use Rattle.vm_field.specs.Machine.{IsWord}
use Rattle.vm_table.specs.Layout.{IsTable, row_at}
use Rattle.buses.specs.Counts.{counted, over_rows}
use Rattle.buses.specs.declared.bus.Bus.TheVariants as bus
use Rattle.chip_columns.specs.MemoryColumns.{ctx, clk, d0, d1, a0, a1}
use Rattle.air_kit.specs.declared.requests.Access.{Access}
use Rattle.air_kit.specs.declared.trace.TableName.TheVariants as table
use Rattle.air_kit.specs.Places.{at_number}
use Rattle.air_kit.specs.MemoryValues.{memory_values}
use Rattle.air_kit.specs.Traces.{spot_of}
use Rattle.air_kit.specs.ChipTuples.{chip_given}
use Rattle.air_kit.specs.Requests.{FitsMemory, IsWordBefore, access_given}
use Rattle.facts_memory.specs.Accesses.{Keeps, access_of, access_key, word_behind}

-- each entry is 0 in each row
pub record MemoryIsZero (rows : List (List ℕ)) : Type 0 where
  pub table : IsTable 14 rows
  pub zero : (i number : ℕ) → i < length rows → at_number (memory_values (spot_of rows i)) number ≡ 0

-- the bus of ranges: a row's limbs have 16 bits
pub record HasLimbs (row : List ℕ) : Type 0 where
  pub d0_small : d0 row < 2 ^ 16
  pub d1_small : d1 row < 2 ^ 16
  pub a0_small : a0 row < 2 ^ 16
  pub a1_small : a1 row < 2 ^ 16

abbrev pub HaveLimbs : List (List ℕ) → Type 0
HaveLimbs rows = (i : ℕ) → i < length rows → HasLimbs (row_at rows i)

-- contexts and clocks have 32 bits
pub record AreSmall (rows : List (List ℕ)) : Type 0 where
  pub contexts : (i : ℕ) → i < length rows → ctx (row_at rows i) < 2 ^ 32
  pub clocks : (i : ℕ) → i < length rows → clk (row_at rows i) < 2 ^ 32

-- the access of row i, and the one before it
abbrev pub access_at : List (List ℕ) → ℕ → Access
access_at rows i = access_of (row_at rows i)

abbrev pub access_before : List (List ℕ) → ℕ → Option Access
access_before rows zero = None
access_before rows (suc i) = Some (access_at rows i)

-- The rows are accesses in order, each of which shows what the one before it left.
pub record AreOrdered (rows : List (List ℕ)) : Type 0 where
  pub kinds : (i : ℕ) → i < length rows → (access_at rows i).kind ≤ 2
  pub addresses : (i : ℕ) → i < length rows → (access_at rows i).addr < 2 ^ 32
  pub grows : (i : ℕ) → suc i < length rows → access_key (access_at rows i) < access_key (access_at rows (suc i))
  pub keeps : (i : ℕ) → i < length rows → Keeps (access_at rows i) (word_behind (access_before rows i) (access_at rows i))

-- Each row shows the word before it, that of the last earlier row of its context and address, or zeros, changed by its own write alone.
abbrev pub ShowLatest : List (List ℕ) → Type 0
ShowLatest rows =
    (i : ℕ) → i < length rows
    → (before : List ℕ) × IsWordBefore (map access_of rows) (access_at rows i) before × Keeps (access_at rows i) before

-- an access that a row can show
pub record IsSmallAccess (a : Access) : Type 0 where
  pub ctx : a.ctx < 2 ^ 32
  pub addr : a.addr < 2 ^ 32
  pub word : IsWord a.word

-- accesses at clocks of their own, each of which shows what those before it leave
pub record AccessesFit (accesses : List Access) : Type 0 where
  pub small : All IsSmallAccess accesses
  pub fits : All (FitsMemory accesses) accesses
  pub apart : (i j : ℕ) (a b : Access) → slice_index_or accesses i a ≡ a → slice_index_or accesses j b ≡ b → a.clk ≡ b.clk
      → i < length accesses → j < length accesses → i ≡ j

-- rows that give these accesses and no more, whose entries are 0, and whose limbs have 16 bits
pub record ShowsAccesses (accesses : List Access) (rows : List (List ℕ)) : Type 0 where
  pub size : length rows ≡ length accesses
  pub zero : MemoryIsZero rows
  pub limbs : HaveLimbs rows
  pub given : (u : List ℕ) → over_rows (chip_given bus.Memory table.Memory) rows u ≡ counted (map access_given accesses) u
