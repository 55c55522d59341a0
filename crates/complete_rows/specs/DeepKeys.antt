-- The keys of all cells below the sixteenth, those that calls hide among them: each is that of an input or the clock of a cycle that
-- pushed, and no two are the same.
use Rattle.std.specs.Prelude.{◌≡◌, ◌⊎◌, ℕ, ◌+◌, ◌-◌, ◌<◌, List, [], ◌∷◌, ◌++◌, length, slice_index}
use Rattle.vm_field.specs.Machine.{State}
use Rattle.vm_field.specs.Signs.{◌⊞◌}
use Rattle.vm_ops.specs.Moves.{shift_of}
use Rattle.vm_ops.specs.declared.op.Shift.TheVariants.{Right}
use Rattle.air_kit.specs.DeepCells.{input_key}
use Rattle.block_tree.specs.Execution as run
use Rattle.block_tree.specs.Trees.{Tree}
use Rattle.machine_cycles.specs.declared.event.Event.{Event}
use Rattle.complete_rows.specs.BlockRows.{IsWholeRun, events_of}
use Rattle.complete_rows.specs.Decoder.{Open, Decoder, advance, at_start}

-- those that the calls of open blocks hide, the newest first
abbrev pub hidden_keys : List Open → List ℕ
hidden_keys [] = []
hidden_keys (block ∷ blocks) = block.hidden ++ hidden_keys blocks

abbrev pub all_keys : Decoder → List ℕ
all_keys d = d.keys ++ hidden_keys d.blocks

-- one of these events pushed at this clock
abbrev pub WasPushed : ℕ → List Event → Type 0
WasPushed key [] = ⊥
WasPushed key (e ∷ past) = ((key ≡ e.before.clock) × (shift_of e.op ≡ Right)) ⊎ WasPushed key past

-- it is the key of one of n inputs
abbrev pub IsInputKey : ℕ → ℕ → Type 0
IsInputKey n key = (i : ℕ) × (i < n) × (key ≡ input_key i)

-- When a cell of this key came: n inputs came one by one, the deepest first, and the first cycle after them. So an input's key, which
-- is greater than each clock, comes before all clocks.
abbrev pub came : ℕ → ℕ → ℕ
came n key = key ⊞ n

-- each is that of an input or was pushed by one of these events, and it came before the bound and after those behind it
abbrev pub AreDeepKeys : ℕ → List Event → ℕ → List ℕ → Type 0
AreDeepKeys n past bound [] = Unit {0}
AreDeepKeys n past bound (key ∷ keys) = (came n key < bound) × (IsInputKey n key ⊎ WasPushed key past) × AreDeepKeys n past (came n key) keys

-- a key came after each one behind it
abbrev pub Fall : ℕ → List ℕ → Type 0
Fall n keys = (i j : ℕ) → i < j → j < length keys → came n (slice_index keys j) < came n (slice_index keys i)

-- no two are the same
abbrev pub AreApart : List ℕ → Type 0
AreApart keys = (i j : ℕ) → i < length keys → j < length keys → slice_index keys i ≡ slice_index keys j → i ≡ j

pub record HasDeepKeys (n : ℕ) (d : Decoder) (past : List Event) : Type 0 where
  pub pushed : AreDeepKeys n past (n + length past) (all_keys d)
  pub fall : Fall n (all_keys d)
  pub apart : AreApart (all_keys d)

-- so it is before each of these events and behind the last one, where those of the past stand newest first
abbrev pub KeepsDeepKeys : ℕ → Decoder → List Event → List Event → Type 0
KeepsDeepKeys n d past [] = HasDeepKeys n d past
KeepsDeepKeys n d past (e ∷ later) = HasDeepKeys n d past × KeepsDeepKeys n (advance d e later) (e ∷ past) later

abbrev pub RunKeepsDeepKeys : Type 0
RunKeepsDeepKeys = (constants : List ℕ) (kernel : List (List ℕ)) (limit : ℕ) (tree : Tree) (inputs tape : List ℕ) (u : State) (log : List run.Event)
    → IsWholeRun constants kernel limit tree inputs tape u log
    → KeepsDeepKeys (length inputs - 16) (at_start (length inputs - 16)) [] (events_of constants kernel log)
