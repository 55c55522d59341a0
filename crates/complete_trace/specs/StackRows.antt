-- The rows of a run show all facts of rows, and the numbers that they look up on the range bus have 16 bits.
use Rattle.std.specs.Prelude.{◌≡◌, ℕ, suc, ◌^◌, ◌<◌, ◌≤◌, List, length, All}
use Rattle.vm_field.specs.Limits.{most_cycles, most_nesting, number_of_constants}
use Rattle.vm_field.specs.Machine.{State}
use Rattle.vm_ops.specs.declared.item.Item.{Item}
use Rattle.vm_table.specs.MainColumns.{lv}
use Rattle.block_tree.specs.Cycles.{Do}
use Rattle.block_tree.specs.Execution as run
use Rattle.block_tree.specs.Trees.{Tree}
use Rattle.air_kit.specs.Places.{Claim}
use Rattle.machine_cycles.specs.Events.{visible_of}
use Rattle.facts_main.specs.Bounds.{IsLowClaim}
use Rattle.vm_table.specs.Layout.{row_at}
use Rattle.facts_main.specs.MainRows.{MainIsZero, ShowsRows, op_in}
use Rattle.facts_steps.specs.Filling.{FillsRows, elsewhere_of}
use Rattle.facts_steps.specs.Lookups.{LooksUpLimbs, LooksUpBits}
use Rattle.complete_rows.specs.BlockRows.{ClaimsRun, IsWholeRun, events_of, filled, keys_of}
use Rattle.complete_rows.specs.Moments.{IsMoment}
use Rattle.complete_rows.specs.RunRequests.{ranges_of}

-- the rows of a run show the facts
abbrev pub RunShowsRows : Type 0
RunShowsRows = (constants : List ℕ) (kernel : List (List ℕ)) (limit : ℕ) (tree : Tree) (inputs tape : List ℕ) (u : State) (log : List run.Event)
    → IsWholeRun constants kernel limit tree inputs tape u log
    → (k : Claim) → ClaimsRun k inputs (keys_of constants kernel inputs log) u → ShowsRows k (filled constants kernel u log)

-- so their entries are 0
abbrev pub RunHasZeros : Type 0
RunHasZeros = (constants : List ℕ) (kernel : List (List ℕ)) (limit : ℕ) (tree : Tree) (inputs tape : List ℕ) (u : State) (log : List run.Event)
    → IsWholeRun constants kernel limit tree inputs tape u log
    → (k : Claim) → ClaimsRun k inputs (keys_of constants kernel inputs log) u → IsLowClaim k → MainIsZero k (filled constants kernel u log)

-- A row of an ordinary operation is filled by its step: it looks up what is so.
abbrev pub MomentFills : Type 0
MomentFills = (constants : List ℕ) (kernel : List (List ℕ)) (limit : ℕ) (x y : List ℕ) → length constants ≡ number_of_constants → limit ≤ most_cycles
    → (m : IsMoment constants kernel limit x y) → (item : Item) → m.mark ≡ Do item
    → FillsRows constants item x y (elsewhere_of m.s) (elsewhere_of m.t)

-- What a row and the row behind it look up of the small tables by themselves: limbs of 16 bits, bitwise operands of 32 bits whose
-- result is that of their bits, and no more open blocks than may nest.
pub record LooksUp (rows : List (List ℕ)) (i : ℕ) : Type 0 where
  pub ranges : LooksUpLimbs (op_in rows i) (row_at rows i)
  pub bits : LooksUpBits (op_in rows i) (row_at rows i) (row_at rows (suc i))
  pub level : lv (row_at rows (suc i)) ≤ most_nesting

-- so does each row of a run but the last
abbrev pub RowsLookUp : Type 0
RowsLookUp = (constants : List ℕ) (kernel : List (List ℕ)) (limit : ℕ) (tree : Tree) (inputs tape : List ℕ) (u : State) (log : List run.Event)
    → IsWholeRun constants kernel limit tree inputs tape u log
    → (i : ℕ) → suc i < length (filled constants kernel u log) → LooksUp (filled constants kernel u log) i

-- the requests of a run to the table of numbers of 16 bits are such numbers
abbrev pub RangesAreLow : Type 0
RangesAreLow = (constants : List ℕ) (kernel : List (List ℕ)) (limit : ℕ) (tree : Tree) (inputs tape : List ℕ) (u : State) (log : List run.Event)
    → IsWholeRun constants kernel limit tree inputs tape u log → All (λ v. v < 2 ^ 16) (ranges_of (visible_of u.core) (events_of constants kernel log))
