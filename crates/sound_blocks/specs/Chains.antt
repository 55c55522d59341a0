-- The keys of the cells below the sixteenth.
use Rattle.std.specs.Prelude.{◌≡◌, ℕ, zero, suc, ◌<◌, List, [], ◌∷◌, drop, length, slice_index_or}
use Rattle.vm_field.specs.Signs.{◌⊞◌}
use Rattle.vm_table.specs.MainColumns.{key}
use Rattle.chip_columns.specs.LeftColumns as left
use Rattle.air_kit.specs.DeepCells.{deep_at_start}
use Rattle.air_kit.specs.Places.{Claim}
use Rattle.air_kit.specs.Traces.{claim_of}
use Rattle.air_kit.specs.declared.trace.Public.{Public}
use Rattle.air_kit.specs.declared.trace.Trace.{Trace}
use Rattle.vm_table.specs.Layout.{row_at}
use Rattle.sound_buses.specs.BusFacts.{Granted}
use Rattle.sound_buses.specs.Overflow.{IsEntry}
use Rattle.sound_blocks.specs.Frames.{FrameFacts}
use Rattle.sound_blocks.specs.Lists.{below_at}

-- Keys in the order in which their cells came below the sixteenth: 0, under which no cell is, then those of the inputs from the last
-- one on, then clocks. The inputs have the greatest elements, which their number takes past the prime.
unfoldable pub rank_of : Claim → ℕ → ℕ
rank_of k zero = 0
rank_of k (suc n) = suc (suc n ⊞ length (deep_at_start k))

-- The cells under a key: the one that the row of this clock pushed or the input that has it, then those under the key of the one below.
-- Ranks fall along a chain, so no key stands there twice, and none is 0, under which no cell is.
pub data Chain (k : Claim) (rows : List (List ℕ)) : ℕ → List ℕ → Type 0 where
  none : Chain k rows 0 []
  some : (at cell below : ℕ) (cells : List ℕ) → IsEntry (deep_at_start k) rows at cell below → rank_of k below < rank_of k at
      → Chain k rows below cells → Chain k rows at (cell ∷ cells)

-- The cells below the sixteenth of a row are those under its key. At the end the table of cells left has a key for each of them, under
-- which it and those below it are.
pub record OverflowChains (k : Claim) (rows left_rows : List (List ℕ)) : Type 0 where
  pub chain : (i : ℕ) → i < length rows → Chain k rows (key (row_at rows i)) (below_at k rows i)
  pub left_size : (i : ℕ) → suc i ≡ length rows → length left_rows ≡ length (below_at k rows i)
  pub left_keys : (i : ℕ) → suc i ≡ length rows → (q : ℕ) → q < length left_rows
      → Chain k rows (left.key (slice_index_or left_rows q [])) (drop q (below_at k rows i))

abbrev pub GrantedChains : Type 0
GrantedChains = (p : Public) (t : Trace) → Granted p t → FrameFacts t.main → OverflowChains (claim_of p t) t.main t.left
