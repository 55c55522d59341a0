-- The cells below the sixteenth that a run gives and asks, those that it starts with, and those that are left at its end.
use Rattle.std.specs.Prelude.{◌≡◌, ℕ, ◌+◌, List, drop, length, map}
use Rattle.vm_field.specs.Machine.{State}
use Rattle.block_tree.specs.Execution as run
use Rattle.block_tree.specs.Trees.{Tree}
use Rattle.buses.specs.Counts.{counted, over_rows, with_next}
use Rattle.buses.specs.declared.bus.Bus.TheVariants as bus
use Rattle.air_kit.specs.ChipTuples.{chip_asked}
use Rattle.air_kit.specs.DeepCells.{cell_tuples, keys_at_start, tuples_at_start}
use Rattle.air_kit.specs.MainTuples.{overflow_asked, overflow_given}
use Rattle.air_kit.specs.Places.{Claim}
use Rattle.air_kit.specs.declared.trace.TableName.TheVariants as table
use Rattle.chip_columns.specs.LeftColumns as left
use Rattle.complete_rows.specs.BlockRows.{IsWholeRun, filled, keys_of}

-- What the statement gives of the inputs and the rows give is what the rows and the left table ask, where that table has the keys of
-- the cells that are left and the statement has the stack at the end as its outputs.
pub record OverflowIsEven (rows : List (List ℕ)) (inputs keys : List ℕ) (u : State) : Type 0 where
  pub cells : (v : List ℕ)
      → counted (cell_tuples (keys_at_start (length (drop 16 inputs))) (drop 16 inputs)) v + over_rows (with_next overflow_given) rows v
      ≡ over_rows (with_next overflow_asked) rows v + counted (cell_tuples keys (drop 16 u.core.stack)) v
  pub table : (k : Claim) (others : List (List ℕ)) → k.inputs ≡ inputs → k.outputs ≡ u.core.stack → map left.key others ≡ keys → (v : List ℕ)
      → counted (tuples_at_start k) v + over_rows (with_next overflow_given) rows v
      ≡ over_rows (with_next overflow_asked) rows v + over_rows (chip_asked k bus.Overflow table.Left) others v

abbrev pub RunKeepsOverflow : Type 0
RunKeepsOverflow = (constants : List ℕ) (kernel : List (List ℕ)) (limit : ℕ) (tree : Tree) (inputs tape : List ℕ) (u : State) (log : List run.Event)
    → IsWholeRun constants kernel limit tree inputs tape u log
    → OverflowIsEven (filled constants kernel u log) inputs (keys_of constants kernel inputs log) u
