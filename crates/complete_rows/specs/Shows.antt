-- What a row shows of the decoder and of the machine's state before it.
use Rattle.std.specs.Prelude.{◌≡◌, ℕ, ◌<◌, true, List, length, slice_index}
use Rattle.vm_field.specs.Machine.{Core}
use Rattle.vm_ops.specs.Codes.{is_ordinary_op}
use Rattle.vm_ops.specs.declared.op.Op.{Op}
use Rattle.vm_ops.specs.Values.{bit_of}
use Rattle.vm_table.specs.MainColumns.{clk, fmp, ctx, sys, f, addr, h, gc, ox, s, depth, key, ha, lv}
use Rattle.air_kit.specs.DeepCells.{key_of}
use Rattle.complete_rows.specs.Decoder.{Decoder, address_of}

pub record Shows (op : Op) (d : Decoder) (c : Core) (x : List ℕ) : Type 0 where
  pub clock : clk x ≡ c.clock
  pub frame : fmp x ≡ c.fmp
  pub context : ctx x ≡ c.context
  pub syscall : sys x ≡ bit_of c.in_syscall
  pub digest : (j : ℕ) → j < 4 → f x j ≡ slice_index c.digest j
  pub level : lv x ≡ c.nesting
  pub cells : (j : ℕ) → j < 16 → s x j ≡ slice_index c.stack j
  pub deep : depth x ≡ length c.stack
  pub address : addr x ≡ address_of d.blocks
  pub batch : ha x ≡ d.ha
  pub left : gc x ≡ length d.unread.positions
  pub place : ox x ≡ d.unread.place
  pub key_is : key x ≡ key_of d.keys
  pub number : is_ordinary_op op ≡ true → h x 0 ≡ d.unread.number
