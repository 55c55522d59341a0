-- What the rows of a run show of blocks, batches, groups and boundaries, and the laws of runs that say so.
use Rattle.std.specs.Prelude.{◌≡◌, ℕ, suc, ◌+◌, ◌-◌, ◌<◌, ◌≤◌, List, [], ◌∷◌, length, map}
use Rattle.vm_field.specs.Limits.{most_cycles, most_inputs, number_of_constants}
use Rattle.vm_field.specs.Field.{AreElements}
use Rattle.vm_field.specs.Machine.{State, start}
use Rattle.vm_table.specs.Layout.{IsTable, row_at}
use Rattle.block_tree.specs.Execution as run
use Rattle.block_tree.specs.Execution.{Done, execution}
use Rattle.block_tree.specs.Steps.{Block}
use Rattle.block_tree.specs.Trees.{Tree, IsWhole}
use Rattle.air_kit.specs.BoundaryValues.{rows_in}
use Rattle.air_kit.specs.DeepCells.{key_of}
use Rattle.air_kit.specs.Places.{Claim}
use Rattle.air_kit.specs.declared.trace.TableName.TheVariants as table
use Rattle.machine_cycles.specs.Events.{shown, visible_of}
use Rattle.machine_cycles.specs.declared.event.Event.{Event}
use Rattle.facts_main.specs.Bounds.{IsFirstRow, IsLastRow}
use Rattle.facts_main.specs.MainRows.{op_in}
use Rattle.facts_main.specs.RowFacts.{ReadsAs, IsRow, IsPair}
use Rattle.complete_rows.specs.Decoder.{Decoder, at_start, decoder_after}
use Rattle.complete_rows.specs.Filling.{rows_of_run}
use Rattle.complete_rows.specs.Moments.{AreMoments, IsRowAt}

-- a run of a whole tree from the start to its end, within the longest limit
pub record IsWholeRun (constants : List ℕ) (kernel : List (List ℕ)) (limit : ℕ) (tree : Tree) (inputs tape : List ℕ) (u : State) (log : List run.Event)
    : Type 0 where
  pub constants_are : length constants ≡ number_of_constants
  pub within : limit ≤ most_cycles
  pub whole : IsWhole tree
  pub few : length inputs ≤ most_inputs
  pub inputs_are : AreElements inputs
  pub tape_is : AreElements tape
  pub done : execution constants kernel limit tree (start inputs tape) ≡ Done u log

-- what the log shows, and the rows that it fills
abbrev pub events_of : List ℕ → List (List ℕ) → List run.Event → List Event
events_of constants kernel log = map (shown constants kernel) log

abbrev pub filled : List ℕ → List (List ℕ) → State → List run.Event → List (List ℕ)
filled constants kernel u log = rows_of_run (visible_of u.core) (events_of constants kernel log)

-- the decoder behind a run from these inputs
abbrev pub decoder_behind : List ℕ → List (List ℕ) → List ℕ → List run.Event → Decoder
decoder_behind constants kernel inputs log = decoder_after (at_start (length inputs - 16)) (events_of constants kernel log)

-- the keys of the cells that are left at its end
abbrev pub keys_of : List ℕ → List (List ℕ) → List ℕ → List run.Event → List ℕ
keys_of constants kernel inputs log = (decoder_behind constants kernel inputs log).keys

-- the statement of a run, with the table of cells left that holds these keys and with a row for each word of the kernel
pub record ClaimsRun (k : Claim) (inputs keys : List ℕ) (u : State) : Type 0 where
  pub inputs_are : k.inputs ≡ inputs
  pub outputs_are : k.outputs ≡ u.core.stack
  pub kernel_rows : rows_in k table.Kernel ≡ length k.kernel
  pub left_rows : rows_in k table.Left ≡ length keys
  pub left_key_is : k.left_key ≡ key_of keys

pub record ShowsBlocks (k : Claim) (rows : List (List ℕ)) : Type 0 where
  pub table : IsTable 65 rows
  pub reads : (i : ℕ) → i < length rows → ReadsAs (op_in rows i) (row_at rows i)
  pub row_is : (i : ℕ) → i < length rows → IsRow (op_in rows i) (row_at rows i)
  pub pair_is : (i : ℕ) → suc i < length rows → IsPair (op_in rows i) (op_in rows (suc i)) (row_at rows i) (row_at rows (suc i))
  pub first : 0 < length rows → IsFirstRow k (op_in rows 0) (row_at rows 0)
  pub last : (i : ℕ) → suc i ≡ length rows → IsLastRow k (op_in rows i) (row_at rows i)

-- the rows of a run show them
abbrev pub RunShowsBlocks : Type 0
RunShowsBlocks = (constants : List ℕ) (kernel : List (List ℕ)) (limit : ℕ) (tree : Tree) (inputs tape : List ℕ) (u : State) (log : List run.Event)
    → IsWholeRun constants kernel limit tree inputs tape u log
    → (k : Claim) → ClaimsRun k inputs (keys_of constants kernel inputs log) u → ShowsBlocks k (filled constants kernel u log)

-- each row of a run is that of a cycle, and the last one HALT's
abbrev pub RunHasMoments : Type 0
RunHasMoments = (constants : List ℕ) (kernel : List (List ℕ)) (limit : ℕ) (tree : Tree) (inputs tape : List ℕ) (u : State) (log : List run.Event)
    → IsWholeRun constants kernel limit tree inputs tape u log
    → AreMoments constants kernel limit (decoder_behind constants kernel inputs log) u (filled constants kernel u log)
    × IsRowAt constants (Block tree ∷ []) (at_start (length inputs - 16)) (start inputs tape).core (row_at (filled constants kernel u log) 0)

-- there is one row more than there are events
abbrev pub RowsAreCounted : Type 0
RowsAreCounted =
    (constants : List ℕ) (kernel : List (List ℕ)) (u : State) (log : List run.Event)
    → length (filled constants kernel u log) ≡ length log + 1
