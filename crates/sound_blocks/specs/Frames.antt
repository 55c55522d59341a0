-- The blocks that are open before a row, and that each END is that of the newest one.
use Rattle.std.specs.Prelude.{◌≡◌, ℕ, zero, suc, ◌≤◌, ◌<◌, if◌then◌else◌, List, [], ◌∷◌, drop, length}
use Rattle.vm_field.specs.Limits.{most_nesting}
use Rattle.vm_ops.specs.Codes.{is_start_op}
use Rattle.vm_ops.specs.declared.op.Op.TheVariants as ops
use Rattle.vm_table.specs.MainColumns.{addr, clk, ctx, sys, lv}
use Rattle.air_kit.specs.Flags.{is_op}
use Rattle.air_kit.specs.declared.trace.Public.{Public}
use Rattle.air_kit.specs.declared.trace.Trace.{Trace}
use Rattle.vm_table.specs.Layout.{row_at}
use Rattle.facts_main.specs.MainRows.{op_in}
use Rattle.sound_buses.specs.Blocks.{IsAt, Starts, Closes, own}
use Rattle.sound_buses.specs.BusFacts.{Granted}

-- The rows of the starts of the blocks that are open before row i, the newest first.
unfoldable pub open_at : List (List ℕ) → ℕ → List ℕ
open_at rows zero = []
open_at rows (suc i) =
    if is_start_op (op_in rows i) then i ∷ open_at rows i
    else if is_op (op_in rows i) ops.End then drop 1 (open_at rows i) else open_at rows i

-- the hasher's address of the newest of open blocks, 0 where none is open
abbrev pub newest_address : List (List ℕ) → List ℕ → ℕ
newest_address rows [] = 0
newest_address rows (j ∷ blocks) = own rows j

-- The block that starts in row j and ends in row e: at its END it is the newest one that is open, and the others are those that
-- were open at its start.
pub record IsBlock (rows : List (List ℕ)) (j e : ℕ) : Type 0 where
  pub closes : Closes rows j e
  pub later : j < e
  pub newest : open_at rows e ≡ j ∷ open_at rows j

-- A row's address is that of the newest open block, and each END is that of this block. Where a block starts, fewer than 1,024 are
-- open; a row's context is one that its clock has reached, and its bit of syscalls is a bit.
pub record FrameFacts (rows : List (List ℕ)) : Type 0 where
  pub address : (i : ℕ) → i < length rows → addr (row_at rows i) ≡ newest_address rows (open_at rows i)
  pub ends : (e : ℕ) → IsAt rows e ops.End → (j : ℕ) × IsBlock rows j e
  pub closed : (j e : ℕ) → Closes rows j e → IsBlock rows j e
  pub level : (i : ℕ) → i < length rows → lv (row_at rows i) ≡ length (open_at rows i)
  pub nesting : (j : ℕ) → Starts rows j → lv (row_at rows j) < most_nesting
  pub context : (i : ℕ) → i < length rows → ctx (row_at rows i) ≤ clk (row_at rows i)
  pub syscall : (i : ℕ) → i < length rows → sys (row_at rows i) < 2

abbrev pub GrantedFrames : Type 0
GrantedFrames = (p : Public) (t : Trace) → Granted p t → FrameFacts t.main
