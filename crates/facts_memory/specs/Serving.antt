-- The memory that accesses by clock leave, and tables that serve them.
use Rattle.std.specs.Prelude.{◌≡◌, ℕ, zero, suc, ◌^◌, ◌<◌, ◌≤◌, ◌==◌, if◌then◌else◌, List, [], ◌∷◌, length, Option, Some, None}
use Rattle.std.specs.FinMap.{empty, insert}
use Rattle.vm_field.specs.Machine.{WordMap, word_at}
use Rattle.buses.specs.Counts.{Counted, counted, over_rows, total}
use Rattle.buses.specs.declared.bus.Bus.TheVariants as bus
use Rattle.air_kit.specs.declared.requests.Access.{Access}
use Rattle.air_kit.specs.declared.trace.TableName.TheVariants as table
use Rattle.air_kit.specs.ChipTuples.{chip_given}
use Rattle.air_kit.specs.Requests.{access_given}
use Rattle.facts_memory.specs.Accesses.{Keeps}
use Rattle.facts_memory.specs.MemoryTables.{access_at}

-- the memory behind an access, if there is one: what is not only read is written
abbrev pub memory_behind : Option Access → WordMap → WordMap
memory_behind None memory = memory
memory_behind (Some a) memory = if a.kind == 0 then memory else insert memory (a.ctx, a.addr) a.word

-- the memory that the accesses before a clock leave, of which each clock has one or none
unfoldable pub memory_before : (ℕ → Option Access) → ℕ → WordMap
memory_before asks zero = empty
memory_before asks (suc i) = memory_behind (asks i) (memory_before asks i)

-- the tuple of an access, if there is one
abbrev pub asked_of : Option Access → List Counted
asked_of None = []
asked_of (Some a) = access_given a ∷ []

-- accesses of the clocks before m, in contexts of 32 bits
pub record AreAsks (asks : ℕ → Option Access) (m : ℕ) : Type 0 where
  pub few : m ≤ 2 ^ 32
  pub clocks : (i : ℕ) (a : Access) → i < m → asks i ≡ Some a → a.clk ≡ i
  pub contexts : (i : ℕ) (a : Access) → i < m → asks i ≡ Some a → a.ctx < 2 ^ 32

-- the rows give each access that is asked, and no more
abbrev pub GivesAsks : (ℕ → Option Access) → ℕ → List (List ℕ) → Type 0
GivesAsks asks m rows =
    (u : List ℕ) → total m (λ i. counted (asked_of (asks i)) u) ≡ over_rows (chip_given bus.Memory table.Memory) rows u

-- each access has an address of 32 bits, and shows what the accesses before its clock leave
pub record AreServed (asks : ℕ → Option Access) (m : ℕ) : Type 0 where
  pub keeps : (i : ℕ) (a : Access) → i < m → asks i ≡ Some a → Keeps a (word_at (memory_before asks i) a.ctx a.addr)
  pub addresses : (i : ℕ) (a : Access) → i < m → asks i ≡ Some a → a.addr < 2 ^ 32

-- a row shows this access
pub record HasRow (rows : List (List ℕ)) (a : Access) : Type 0 where
  pub at : ℕ
  pub within : at < length rows
  pub shows : access_at rows at ≡ a

-- each row's access is asked at its clock, and each one asked has a row
pub record AreAsked (asks : ℕ → Option Access) (m : ℕ) (rows : List (List ℕ)) : Type 0 where
  pub within : (q : ℕ) → q < length rows → (access_at rows q).clk < m
  pub given : (q : ℕ) → q < length rows → asks (access_at rows q).clk ≡ Some (access_at rows q)
  pub asked : (i : ℕ) (a : Access) → i < m → asks i ≡ Some a → HasRow rows a

-- Accesses that are asked and rows pair one to one: none has two rows.
pub record ArePaired (asks : ℕ → Option Access) (m : ℕ) (rows : List (List ℕ)) : Type 0 where
  pub asked : AreAsked asks m rows
  pub once : (q r : ℕ) → q < length rows → r < length rows → access_at rows q ≡ access_at rows r → q ≡ r
