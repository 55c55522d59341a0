-- What a row shows of the blocks, and what the row behind it keeps.
use Rattle.std.specs.Prelude.{◌≡◌, ℕ, ◌+◌, ◌^◌, ◌<◌, ◌≤◌, Bool, true, ◌==◌, ◌&&◌, ◌||◌, not, if◌then◌else◌, List}
use Rattle.vm_field.specs.Signs.{◌⊞◌, ◌⊟◌}
use Rattle.vm_ops.specs.Codes.{is_ordinary_op, is_start_op}
use Rattle.vm_ops.specs.declared.op.Op.{Op}
use Rattle.vm_ops.specs.declared.op.Op.TheVariants as ops
use Rattle.vm_table.specs.MainColumns.{clk, fmp, ctx, sys, f, addr, h, s, ha, lv}
use Rattle.air_kit.specs.Flags.{is_op}
use Rattle.air_kit.specs.MainTuples.{is_call_op}

-- An END: four flags, of which at most one is set. A loop that was entered ends where 0 is on top.
pub record IsEndRow (x : List ℕ) : Type 0 where
  pub bits : (j : ℕ) → j < 4 → h x (4 + j) < 2
  pub most : h x 4 + h x 5 + h x 6 + h x 7 ≤ 1
  pub stops : h x 4 ≡ 1 → s x 0 ≡ 0

-- a row of a block
pub record IsBlockRow (op : Op) (x : List ℕ) : Type 0 where
  pub condition : is_op op ops.Split || is_op op ops.Loop ≡ true → s x 0 < 2
  pub again : is_op op ops.Repeat ≡ true → s x 0 ≡ 1
  pub ends : is_op op ops.End ≡ true → IsEndRow x
  pub single : is_op op ops.Loop || is_call_op op || is_op op ops.Dyn ≡ true → (j : ℕ) → j < 4 → h x (4 + j) ≡ 0
  pub outside : is_call_op op ≡ true → sys x ≡ 0
  pub inside : is_op op ops.Caller ≡ true → sys x ≡ 1
  pub closed : is_op op ops.Halt ≡ true → addr x ≡ 0

-- the row ends a call
abbrev pub ends_call : Op → List ℕ → Bool
ends_call op x = is_op op ops.End && (h x 6 ⊞ h x 7 == 1)

-- the function that runs stays the same
abbrev pub stays_in_function : Op → List ℕ → Bool
stays_in_function op x = not (is_call_op op || ends_call op x)

-- so does its digest, which a syscall keeps
abbrev pub keeps_digest : Op → List ℕ → Bool
keeps_digest op x = not (is_op op ops.Call || ends_call op x)

-- so does the frame pointer
abbrev pub keeps_frame : Op → List ℕ → Bool
keeps_frame op x = not (is_call_op op || ends_call op x || is_op op ops.FmpUpdate)

-- and the newest block that was started and not ended
abbrev pub keeps_block : Op → Bool
keeps_block op = not (is_start_op op || is_op op ops.End)

-- how many blocks are open behind the row
abbrev pub level_after : Op → ℕ → ℕ
level_after op level = if is_start_op op then level ⊞ 1 else if is_op op ops.End then level ⊟ 1 else level

-- Behind a CALL: a context of its own, the frame pointer at its start, outside of a syscall, in the function that is called.
pub record EntersCall (x y : List ℕ) : Type 0 where
  pub context : ctx y ≡ clk x ⊞ 1
  pub frame : fmp y ≡ 2 ^ 30
  pub syscall : sys y ≡ 0
  pub digest : (j : ℕ) → j < 4 → f y j ≡ h x j

-- behind a SYSCALL: the outermost context, the kernel's frame pointer, inside of a syscall
pub record EntersSyscall (x y : List ℕ) : Type 0 where
  pub context : ctx y ≡ 0
  pub frame : fmp y ≡ 2 ^ 31
  pub syscall : sys y ≡ 1

-- The row behind a row. Behind the END of a call it is free here: the bus of blocks brings back what the call set aside.
pub record KeepsBlock (op : Op) (x y : List ℕ) : Type 0 where
  pub call : is_op op ops.Call ≡ true → EntersCall x y
  pub syscall : is_op op ops.Syscall ≡ true → EntersSyscall x y
  pub function : stays_in_function op x ≡ true → (ctx y ≡ ctx x) × (sys y ≡ sys x)
  pub digest : keeps_digest op x ≡ true → (j : ℕ) → j < 4 → f y j ≡ f x j
  pub frame : keeps_frame op x ≡ true → fmp y ≡ fmp x
  pub frame_moves : is_op op ops.FmpUpdate ≡ true → fmp y ≡ fmp x ⊞ s x 0
  pub block : keeps_block op ≡ true → addr y ≡ addr x
  pub level : lv y ≡ level_after op (lv x)

-- where the hasher has the batch of the row behind: at the start of the block, one permutation on, or where it was
pub record KeepsBatch (op : Op) (x y : List ℕ) : Type 0 where
  pub first : is_op op ops.Span ≡ true → ha y ≡ addr y
  pub later : is_op op ops.Respan ≡ true → ha y ≡ ha x ⊞ 8
  pub same : is_ordinary_op op ≡ true → ha y ≡ ha x
