-- The accesses of the rows of a main table, and tables of memory that serve them.
use Rattle.std.specs.Prelude.{◌≡◌, ℕ, suc, ◌^◌, ◌<◌, ◌≤◌, List, [], ◌∷◌, length, slice_get, Option, Some, None}
use Rattle.buses.specs.Counts.{over_rows, with_next}
use Rattle.buses.specs.declared.bus.Bus.TheVariants as bus
use Rattle.vm_field.specs.Machine.{word_at}
use Rattle.vm_ops.specs.declared.op.Op.{Op}
use Rattle.vm_ops.specs.declared.op.Op.TheVariants as ops
use Rattle.vm_table.specs.MainColumns.{clk, ctx, s, t}
use Rattle.air_kit.specs.declared.requests.Access.{Access}
use Rattle.air_kit.specs.declared.trace.TableName.TheVariants as table
use Rattle.air_kit.specs.ChipTuples.{chip_given}
use Rattle.air_kit.specs.Flags.{op_of}
use Rattle.air_kit.specs.MainTuples.{memory_asked}
use Rattle.air_kit.specs.RowStates.{memory_at}
use Rattle.facts_memory.specs.Accesses.{Keeps}
use Rattle.vm_table.specs.Layout.{row_at}
use Rattle.facts_memory.specs.MemoryTables.{access_at}
use Rattle.facts_memory.specs.Serving.{HasRow}

-- an access of the word at the top of the stack, at the row's clock and in its context
abbrev pub access_with : ℕ → List ℕ → List ℕ → Access
access_with kind x word = record { kind = kind; ctx = ctx x; addr = s x 0; clk = clk x; word = word }

-- what a row accesses, by its operation: the row behind it shows what is read
abbrev pub access_by : Op → List ℕ → List ℕ → Option Access
access_by ops.MLoad x y = Some (access_with 0 x (s y 0 ∷ t x 0 ∷ t x 1 ∷ t x 2 ∷ []))
access_by ops.MLoadW x y = Some (access_with 0 x (s y 3 ∷ s y 2 ∷ s y 1 ∷ s y 0 ∷ []))
access_by ops.MStore x y = Some (access_with 2 x (s x 1 ∷ t x 0 ∷ t x 1 ∷ t x 2 ∷ []))
access_by ops.MStoreW x y = Some (access_with 1 x (s x 4 ∷ s x 3 ∷ s x 2 ∷ s x 1 ∷ []))
access_by op x y = None

-- each row of a main table has its number as its clock, and a context of 32 bits
pub record IsClocked (main : List (List ℕ)) : Type 0 where
  pub few : length main ≤ 2 ^ 32
  pub clocks : (i : ℕ) → i < length main → clk (row_at main i) ≡ i
  pub contexts : (i : ℕ) → i < length main → ctx (row_at main i) < 2 ^ 32

-- the bus of memory: what the main table asks is what the table of memory gives
abbrev pub GivesMain : List (List ℕ) → List (List ℕ) → Type 0
GivesMain main rows =
    (u : List ℕ) → over_rows (with_next memory_asked) main u ≡ over_rows (chip_given bus.Memory table.Memory) rows u

-- the access of a row has an address of 32 bits, and shows what the rows before it leave
pub record ServesRow (main : List (List ℕ)) (i : ℕ) (a : Access) : Type 0 where
  pub address : a.addr < 2 ^ 32
  pub keeps : Keeps a (word_at (memory_at main i) a.ctx a.addr)

-- so does that of each row
abbrev pub ServesMain : List (List ℕ) → Type 0
ServesMain main =
    (i : ℕ) (y : List ℕ) (a : Access) → slice_get main (suc i) ≡ Some y → access_by (op_of (row_at main i)) (row_at main i) y ≡ Some a
    → ServesRow main i a

-- the row of a main table with this access's clock makes the access
pub record HasMainRow (main : List (List ℕ)) (a : Access) : Type 0 where
  pub behind : List ℕ
  pub next : slice_get main (suc a.clk) ≡ Some behind
  pub accesses : access_by (op_of (row_at main a.clk)) (row_at main a.clk) behind ≡ Some a

-- Rows of a main table that access memory and rows of memory pair one to one: each access has a row that shows it, each row shows
-- the access of the row with its clock, and no access has two rows.
pub record PairsMain (main rows : List (List ℕ)) : Type 0 where
  pub shown : (i : ℕ) (y : List ℕ) (a : Access) → slice_get main (suc i) ≡ Some y
      → access_by (op_of (row_at main i)) (row_at main i) y ≡ Some a → HasRow rows a
  pub accessed : (q : ℕ) → q < length rows → HasMainRow main (access_at rows q)
  pub once : (q r : ℕ) → q < length rows → r < length rows → access_at rows q ≡ access_at rows r → q ≡ r
