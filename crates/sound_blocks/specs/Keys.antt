-- The keys of all cells below the sixteenth that there are at once: those of a row, and those that calls have set aside.
use Rattle.std.specs.Prelude.{◌≡◌, ℕ, ◌<◌, true, if◌then◌else◌, List, [], ◌∷◌, length, map}
use Rattle.std.specs.List.{AllPairs}
use Rattle.vm_table.specs.MainColumns.{key}
use Rattle.air_kit.specs.DeepCells.{deep_at_start, input_key}
use Rattle.air_kit.specs.Flags.{is_right}
use Rattle.air_kit.specs.MainTuples.{is_call_op}
use Rattle.air_kit.specs.Places.{Claim}
use Rattle.air_kit.specs.RowStates.{overflow_at}
use Rattle.air_kit.specs.Traces.{claim_of}
use Rattle.air_kit.specs.declared.trace.Public.{Public}
use Rattle.air_kit.specs.declared.trace.Trace.{Trace}
use Rattle.vm_table.specs.Layout.{row_at}
use Rattle.facts_main.specs.MainRows.{op_in}
use Rattle.sound_buses.specs.BusFacts.{Granted}
use Rattle.sound_buses.specs.Overflow.{IsEntry}
use Rattle.sound_blocks.specs.Frames.{FrameFacts, open_at}
use Rattle.sound_blocks.specs.Lists.{below_at}

-- the first key is that of a cell in the list under the second one
pub data IsAlong (k : Claim) (rows : List (List ℕ)) (at : ℕ) : ℕ → Type 0 where
  here : (cell below : ℕ) → IsEntry (deep_at_start k) rows at cell below → IsAlong k rows at at
  behind : (front cell below : ℕ) → IsEntry (deep_at_start k) rows front cell below → IsAlong k rows at below → IsAlong k rows at front

-- what is the key of a cell in row i: the clock of a row before that pushed one, or an input's
pub data IsPast (k : Claim) (rows : List (List ℕ)) (i at : ℕ) : Type 0 where
  clock : at < i → is_right (op_in rows at) ≡ true → IsPast k rows i at
  number : (n : ℕ) → n < length (deep_at_start k) → at ≡ input_key n → IsPast k rows i at

-- the rows of the calls among these blocks, and of those that are open before row i
unfoldable pub calls_among : List (List ℕ) → List ℕ → List ℕ
calls_among rows [] = []
calls_among rows (j ∷ js) = if is_call_op (op_in rows j) then j ∷ calls_among rows js else calls_among rows js

abbrev pub open_calls : List (List ℕ) → ℕ → List ℕ
open_calls rows i = calls_among rows (open_at rows i)

-- no key is in the lists of both rows
abbrev pub AreApart : Claim → List (List ℕ) → ℕ → ℕ → Type 0
AreApart k rows i j = (at : ℕ) → IsAlong k rows at (key (row_at rows i)) → IsAlong k rows at (key (row_at rows j)) → ⊥

-- What is set aside in a row are the lists of the rows of its open calls. In these and the row's own each key is a past one, and none
-- stands twice: not in one list, and not in two.
pub record KeyFacts (k : Claim) (rows : List (List ℕ)) : Type 0 where
  pub aside : (i : ℕ) → i < length rows → (overflow_at (deep_at_start k) rows i).aside ≡ map (below_at k rows) (open_calls rows i)
  pub past : (i at : ℕ) → i < length rows → IsAlong k rows at (key (row_at rows i)) → IsPast k rows i at
  pub once : (i at cell below : ℕ) → i < length rows → IsAlong k rows at (key (row_at rows i)) → IsEntry (deep_at_start k) rows at cell below
      → IsAlong k rows at below → ⊥
  pub apart : (i : ℕ) → i < length rows → AllPairs (AreApart k rows) (i ∷ open_calls rows i)

abbrev pub GrantedKeys : Type 0
GrantedKeys = (p : Public) (t : Trace) → Granted p t → FrameFacts t.main → KeyFacts (claim_of p t) t.main
