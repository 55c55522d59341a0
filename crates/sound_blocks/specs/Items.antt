-- The items that the rows of ordinary operations show.
use Rattle.std.specs.Prelude.{◌≡◌, ℕ, suc, ◌<◌, true, false, if◌then◌else◌, List, [], ◌∷◌, length, Some, None}
use Rattle.vm_ops.specs.Codes.{is_ordinary_op}
use Rattle.vm_ops.specs.declared.item.Item.{Item}
use Rattle.vm_ops.specs.declared.op.Op.TheVariants as ops
use Rattle.vm_table.specs.MainColumns.{s}
use Rattle.air_kit.specs.Flags.{is_op}
use Rattle.vm_table.specs.Layout.{row_at}
use Rattle.facts_main.specs.MainRows.{op_in}

-- the item of row i: its operation, and for PUSH the cell that the row behind it has on top
abbrev pub item_at : List (List ℕ) → ℕ → Item
item_at rows i = record {
  op = op_in rows i;
  imm = if is_op (op_in rows i) ops.Push then Some (s (row_at rows (suc i)) 0) else None;
}

-- rows r and on are those of ordinary operations with these items, and row e behind them is not
pub data AreItems (rows : List (List ℕ)) : ℕ → ℕ → List Item → Type 0 where
  over : (e : ℕ) → suc e < length rows → is_ordinary_op (op_in rows e) ≡ false → AreItems rows e e []
  next : (r e : ℕ) (items : List Item) → suc r < length rows → is_ordinary_op (op_in rows r) ≡ true → AreItems rows (suc r) e items
      → AreItems rows r e (item_at rows r ∷ items)
