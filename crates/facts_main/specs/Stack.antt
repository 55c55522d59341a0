-- What a row and the row behind it show of the stack.
use Rattle.std.specs.Prelude.{◌≡◌, ◌≢◌, ℕ, ◌+◌, ◌-◌, ◌<◌, ◌≤◌, Bool, true, false, ◌==◌, ◌&&◌, ◌||◌, not, if◌then◌else◌, List, Some}
use Rattle.vm_field.specs.Signs.{◌⊞◌, ◌⊟◌, ◌⊠◌}
use Rattle.vm_ops.specs.Moves.{takes_of, leaves_of}
use Rattle.vm_ops.specs.declared.op.Op.{Op}
use Rattle.vm_ops.specs.declared.op.Op.TheVariants as ops
use Rattle.vm_table.specs.MainColumns.{clk, h, s, depth, key, inv, w}
use Rattle.air_kit.specs.Flags.{is_op, is_left, is_right}
use Rattle.air_kit.specs.MainTuples.{is_call_op}
use Rattle.air_kit.specs.Places.{Spot}
use Rattle.air_kit.specs.StackValues.{is_free, left_value}
use Rattle.facts_main.specs.Blocks.{ends_call}

-- the operations whose top cell is a bit, and those whose second cell is one too
abbrev pub tests_two : Op → Bool
tests_two op = is_op op ops.And || is_op op ops.Or

abbrev pub tests_top : Op → Bool
tests_top op = is_op op ops.Not || tests_two op || is_op op ops.CSwap || is_op op ops.CSwapW

-- A row: an inverse shows that the stack is deeper than sixteen cells, and a call ends at sixteen. Operands that are tested are bits.
pub record IsStackRow (op : Op) (x : List ℕ) : Type 0 where
  pub witness : depth x ≢ 16 → (depth x ⊟ 16) ⊠ inv x ≡ 1
  pub returns : ends_call op x ≡ true → depth x ≡ 16
  pub top : tests_top op ≡ true → s x 0 < 2
  pub second : tests_two op ≡ true → s x 1 < 2
  pub asserted : is_op op ops.Assert ≡ true → s x 0 ≡ 1

-- The operation by which the row moves the stack: an END that takes a loop's condition off moves it as DROP.
abbrev pub mover : Op → List ℕ → Op
mover op x = if is_op op ops.End && (h x 4 == 1) then ops.Drop else op

-- the row leaves the stack as deep as it was
abbrev pub keeps_stack : Op → List ℕ → Bool
keeps_stack op x = not (is_right op || is_left (mover op x) || is_call_op op || ends_call op x)

-- The depth, and the key of the first cell below the sixteenth. Behind the END of a call both are free here: the bus of blocks
-- brings back what the call set aside. The key behind a left shift of a deeper stack is the overflow bus's.
pub record MovesDepth (op : Op) (x y : List ℕ) : Type 0 where
  pub right : is_right op ≡ true → (depth y ≡ depth x ⊞ 1) × (key y ≡ clk x)
  pub left_flat : is_left (mover op x) ≡ true → depth x ≡ 16 → (depth y ≡ 16) × (key y ≡ key x)
  pub left_deep : is_left (mover op x) ≡ true → depth x ≢ 16 → depth y ≡ depth x ⊟ 1
  pub call : is_call_op op ≡ true → (depth y ≡ 16) × (key y ≡ 0)
  pub same : keeps_stack op x ≡ true → (depth y ≡ depth x) × (key y ≡ key x)

-- The cells below those that the operation leaves come from where the shift brings them. At depth sixteen a left shift brings 0 into
-- the last cell; in a deeper stack that cell is the overflow bus's.
pub record ShiftsCells (op : Op) (x y : List ℕ) : Type 0 where
  pub brings : (j : ℕ) → leaves_of op ≤ j → j < 16 → is_left op && (j == 15) ≡ false → s y j ≡ s x (j + takes_of op - leaves_of op)
  pub last : is_left op ≡ true → depth x ≡ 16 → s y 15 ≡ 0

-- The cells that the operation leaves are those that the machine computes from the row, but for the operations whose cells other
-- entries, buses or the tape fix. Comparisons show by an inverse that their operands differ, and what is inverted is not 0.
pub record LeavesCells (op : Op) (x y : List ℕ) : Type 0 where
  pub cells : is_free op ≡ false → (j : ℕ) → j < leaves_of op → s y j ≡ left_value op j x
  pub not_zero : is_op op ops.Eqz ≡ true → s x 0 ≢ 0 → s x 0 ⊠ w x 0 ≡ 1
  pub not_same : is_op op ops.Eq ≡ true → s x 0 ≢ s x 1 → (s x 0 ⊟ s x 1) ⊠ w x 0 ≡ 1
  pub inverted : is_op op ops.Inv ≡ true → s x 0 ≢ 0

pub record MovesStack (op : Op) (x y : List ℕ) : Type 0 where
  pub depth_moves : MovesDepth op x y
  pub shifts : ShiftsCells (mover op x) x y
  pub leaves : LeavesCells op x y

-- a row in its place
pub record ShowsStack (op : Op) (p : Spot) : Type 0 where
  pub row : IsStackRow op p.cur
  pub pair : (y : List ℕ) → p.next ≡ Some y → MovesStack op p.cur y
