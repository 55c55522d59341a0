-- What is tested of the stack in a row and the one after it, where the row's operation does not call. All other entries of the
-- stack's depth, key and cells are then 0.
use Rattle.std.specs.Prelude.{◌≡◌, ◌≢◌, ℕ, ◌+◌, ◌-◌, ◌<◌, ◌≤◌, List, length, slice_index, Option, None}
use Rattle.vm_field.specs.Signs.{◌⊞◌, ◌⊟◌, ◌⊠◌}
use Rattle.vm_ops.specs.Codes.{code_of}
use Rattle.vm_ops.specs.declared.op.Op.{Op}
use Rattle.vm_ops.specs.declared.op.Shift.{Shift}
use Rattle.vm_ops.specs.declared.op.Shift.TheVariants.{Left, Stay, Right}
use Rattle.vm_table.specs.MainColumns.{clk, depth, key, s}
use Rattle.air_kit.specs.Places.{first_fault_of}
use Rattle.air_kit.specs.StackValues.{cell_values, deeper, depth_values}
use Rattle.air_stack.specs.Parts.{spot_between}

-- the operation neither calls nor ends a block
pub record IsSteady (op : Op) : Type 0 where
  pub not_end : code_of op ≢ 76
  pub not_call : code_of op ≢ 74
  pub not_syscall : code_of op ≢ 75

-- the stack has one cell fewer
pub record Falls (x y : List ℕ) : Type 0 where
  pub fewer : depth y ⊟ depth x ⊞ deeper x ≡ 0
  pub same_key : (1 ⊟ deeper x) ⊠ (key y ⊟ key x) ≡ 0

-- as many
pub record Stays (x y : List ℕ) : Type 0 where
  pub as_many : depth y ⊟ depth x ≡ 0
  pub same_key : key y ⊟ key x ≡ 0

-- one more
pub record Rises (x y : List ℕ) : Type 0 where
  pub more : depth y ⊟ depth x ⊟ 1 ≡ 0
  pub new_key : key y ⊟ clk x ≡ 0

abbrev pub Shifts : Shift → List ℕ → List ℕ → Type 0
Shifts Left = Falls
Shifts Stay = Stays
Shifts Right = Rises

-- from a place on, a row's cells are those one place lower, at the same place, or one place higher in the row before
abbrev pub ComeUp : ℕ → List ℕ → List ℕ → Type 0
ComeUp from x y = (j : ℕ) → from ≤ j → j < 15 → s y j ⊟ s x (j + 1) ≡ 0

-- the cells on top are copies of these
abbrev pub AreCopies : List ℕ → List ℕ → List ℕ → Type 0
AreCopies sources x y = (j : ℕ) → j < length sources → s y j ⊟ s x (slice_index sources j) ≡ 0

abbrev pub StayLevel : ℕ → List ℕ → List ℕ → Type 0
StayLevel from x y = (j : ℕ) → from ≤ j → j < 16 → s y j ⊟ s x j ≡ 0

abbrev pub GoDown : ℕ → List ℕ → List ℕ → Type 0
GoDown from x y = (j : ℕ) → from ≤ j → j < 16 → s y j ⊟ s x (j - 1) ≡ 0

-- an END that keeps the stack
pub record EndsBlock (x y : List ℕ) : Type 0 where
  pub kept : Stays x y
  pub cells : StayLevel 0 x y

-- the END of a call, behind which the buses fix the depth and the key
pub record EndsCall (x y : List ℕ) : Type 0 where
  pub full : depth x ⊟ 16 ≡ 0
  pub cells : StayLevel 0 x y

-- the END of a loop that was entered, which takes its condition off
pub record EndsLoop (x y : List ℕ) : Type 0 where
  pub moves : Falls x y
  pub free : (1 ⊟ deeper x) ⊠ s y 15 ≡ 0
  pub cells : ComeUp 0 x y

-- the entries of the depth, of the key and of the cells are 0
pub record IsMoved (x : List ℕ) (next : Option (List ℕ)) : Type 0 where
  pub depths : first_fault_of 115 (depth_values (spot_between x next)) ≡ None
  pub tops : first_fault_of 119 (cell_values (spot_between x next)) ≡ None
