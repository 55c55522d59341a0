-- The cells that a row shows.
use Rattle.std.specs.Prelude.{ℕ, List}
use Rattle.vm_table.specs.Blocks.{block_row}
use Rattle.vm_table.specs.declared.view.Row.{Row}

-- a row's cells, in the order of the columns
unfoldable pub row_cells : {W : ℕ} → Row W → List ℕ
row_cells {W} r = block_row W r.columns.now r.place
