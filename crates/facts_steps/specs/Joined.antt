-- A row of an ordinary operation, the row behind it, and what neither shows: the cells below the sixteenth, memory and the tape.
use Rattle.std.specs.Prelude.{◌≡◌, ◌≢◌, ℕ, ◌+◌, ◌^◌, ◌<◌, true, false, if◌then◌else◌, List, ◌∷◌, ◌++◌, length, Some, None}
use Rattle.vm_field.specs.Machine.{word_at, IsWord}
use Rattle.vm_ops.specs.declared.item.Item.{Item}
use Rattle.vm_ops.specs.declared.op.Op.{Op}
use Rattle.vm_ops.specs.declared.op.Op.TheVariants as ops
use Rattle.vm_table.specs.MainColumns.{clk, s, depth}
use Rattle.air_kit.specs.Flags.{is_op, is_left, is_right}
use Rattle.air_kit.specs.RowStates.{Elsewhere, taken_by, written_by, memory_behind}

-- the item of a row: what PUSH pushes is on top in the row behind it
abbrev pub item_of : Op → List ℕ → Item
item_of op y = record { op = op; imm = if is_op op ops.Push then Some (s y 0) else None }

-- A row with what it does not show: together they have all cells of the stack, and memory is made of words. A run has at most 2^19
-- cycles, and its stack at most 2^20 cells.
pub record IsRowOf (x : List ℕ) (e : Elsewhere) : Type 0 where
  pub early : clk x < 2 ^ 19
  pub depth_is : depth x ≡ 16 + length e.below
  pub shallow : depth x < 2 ^ 20
  pub words : (context place : ℕ) → IsWord (word_at e.memory context place)

-- The cells below the sixteenth, before the operation and behind it: a right shift puts the sixteenth cell in front of them, and a
-- left shift takes the first one, where there is one, into the sixteenth.
pub record ShiftsBelow (op : Op) (x y : List ℕ) (before after : List ℕ) : Type 0 where
  pub right : is_right op ≡ true → after ≡ s x 15 ∷ before
  pub left_flat : is_left op ≡ true → depth x ≡ 16 → after ≡ before
  pub left_deep : is_left op ≡ true → depth x ≢ 16 → before ≡ s y 15 ∷ after
  pub same : is_left op ≡ false → is_right op ≡ false → after ≡ before

-- what the row does not show, and what the row behind it does not
pub record GoesOnBy (op : Op) (x y : List ℕ) (e f : Elsewhere) : Type 0 where
  pub below : ShiftsBelow op x y e.below f.below
  pub memory : f.memory ≡ memory_behind x (written_by op x) e.memory
  pub tape : e.tape ≡ taken_by op y ++ f.tape
