use Rattle.std.proofs.Common.{◌≡◌, ◌≢◌, ℕ, ◌<◌, [], get_or}
use Rattle.vm_table.proofs.blocks.write_row.Given as goal

abbrev pub invariant-loop-column : goal.invariant-loop-column
invariant-loop-column g l =
    ((k : ℕ) → k < l.column → get_or (get_or l.block k []) l.place 0 ≡ get_or l.row k 0)
    × ((k p : ℕ) → p ≢ l.place → get_or (get_or l.block k []) p 0 ≡ get_or (get_or l.fn.block k []) p 0)
