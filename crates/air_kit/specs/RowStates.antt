-- The state of the machine that a row shows, with what no row shows: the cells below the sixteenth, memory, and the tape that is
-- left. These come from the rows before it and behind it.
use Rattle.std.specs.Prelude.{ℕ, zero, suc, ◌==◌, ◌&&◌, Bool, if◌then◌else◌, List, [], ◌∷◌, ◌++◌, drop, slice_index_or, Option, Some, None}
use Rattle.std.specs.FinMap.{empty, insert}
use Rattle.vm_field.specs.Machine.{Core, State, WordMap}
use Rattle.vm_field.specs.Signs.{◌⊞◌}
use Rattle.vm_ops.specs.declared.op.Op.{Op}
use Rattle.vm_ops.specs.declared.op.Op.TheVariants as ops
use Rattle.vm_table.specs.MainColumns.{clk, fmp, ctx, sys, h, s, t, depth, lv}
use Rattle.air_kit.specs.Flags.{is_op, is_right, op_of}
use Rattle.air_kit.specs.StackValues.{cells, function_digest}
use Rattle.air_kit.specs.MainTuples.{is_call_op, row_shifts_left}

-- what no row shows
pub record Elsewhere : Type 0 where
  pub below : List ℕ  -- the cells below the sixteenth
  pub memory : WordMap
  pub tape : List ℕ

-- the state but for the tape
abbrev pub core_of : List ℕ → Elsewhere → Core
core_of x e = record {
  clock = clk x;
  context = ctx x;
  fmp = fmp x;
  in_syscall = sys x == 1;
  digest = function_digest x;
  nesting = lv x;
  stack = cells x ++ e.below;
  memory = e.memory;
}

abbrev pub state_of : List ℕ → Elsewhere → State
state_of x e = record { core = core_of x e; tape = e.tape }

-- The elements of the tape that a row takes, from the row after it.
abbrev pub taken_by : Op → List ℕ → List ℕ
taken_by ops.AdvPop y = s y 0 ∷ []
taken_by ops.AdvPopW y = s y 3 ∷ s y 2 ∷ s y 1 ∷ s y 0 ∷ []
taken_by op y = []

-- the tape of a main table
unfoldable pub tape_of : List (List ℕ) → List ℕ
tape_of [] = []
tape_of (x ∷ []) = []
tape_of (x ∷ y ∷ rows) = taken_by (op_of x) y ++ tape_of (y ∷ rows)

-- the row ends a call
abbrev pub row_returns : List ℕ → Bool
row_returns x = is_op (op_of x) ops.End && (h x 6 ⊞ h x 7 == 1)

-- the cells below the sixteenth, and those that calls have set aside, the newest first
pub record Overflow : Type 0 where
  pub below : List ℕ
  pub aside : List (List ℕ)

abbrev pub brought_back : List (List ℕ) → Overflow
brought_back [] = record { below = []; aside = [] }
brought_back (cells ∷ aside) = record { below = cells; aside = aside }

-- A right shift puts the sixteenth cell in front, a left shift takes the first one where there is one, a call sets them aside, and
-- its END brings them back.
abbrev pub overflow_behind : List ℕ → Overflow → Overflow
overflow_behind x o =
    if is_right (op_of x) then record o { below = s x 15 ∷ o.below }
    else if row_shifts_left x then (if depth x == 16 then o else record o { below = drop 1 o.below })
    else if is_call_op (op_of x) then record { below = []; aside = o.below ∷ o.aside }
    else if row_returns x then brought_back o.aside else o

-- those of row i, where these cells are below the sixteenth in the first row
unfoldable pub overflow_at : List ℕ → List (List ℕ) → ℕ → Overflow
overflow_at deep rows zero = record { below = deep; aside = [] }
overflow_at deep rows (suc i) = overflow_behind (slice_index_or rows i []) (overflow_at deep rows i)

-- the word that a row writes
abbrev pub written_by : Op → List ℕ → Option (List ℕ)
written_by ops.MStore x = Some (s x 1 ∷ t x 0 ∷ t x 1 ∷ t x 2 ∷ [])
written_by ops.MStoreW x = Some (s x 4 ∷ s x 3 ∷ s x 2 ∷ s x 1 ∷ [])
written_by op x = None

abbrev pub memory_behind : List ℕ → Option (List ℕ) → WordMap → WordMap
memory_behind x None memory = memory
memory_behind x (Some word) memory = insert memory (ctx x, s x 0) word

-- the memory that the rows before row i leave
unfoldable pub memory_at : List (List ℕ) → ℕ → WordMap
memory_at rows zero = empty
memory_at rows (suc i) =
    memory_behind (slice_index_or rows i []) (written_by (op_of (slice_index_or rows i [])) (slice_index_or rows i [])) (memory_at rows i)

-- what row i does not show
abbrev pub elsewhere_at : List ℕ → List (List ℕ) → ℕ → Elsewhere
elsewhere_at deep rows i = record {
  below = (overflow_at deep rows i).below;
  memory = memory_at rows i;
  tape = tape_of (drop i rows);
}

-- the state of row i
abbrev pub state_at : List ℕ → List (List ℕ) → ℕ → State
state_at deep rows i = state_of (slice_index_or rows i []) (elsewhere_at deep rows i)
