use Rattle.table_file.proofs.Words.{◌≡◌, ℕ, ◌*◌, ◌<◌, List, drop, length, element_at}
use Rattle.table_file.proofs.Going.{Goes}
use Rattle.table_file.proofs.rows.cut_row.Given as goal

-- the elements so far are those of a row
abbrev pub invariant-loop-j : goal.invariant-loop-j
invariant-loop-j l =
    (all : List ℕ) (width : ℕ) → drop l.at all ≡ l.part → length l.part < 8 * width
    → (front : List ℕ) × Goes (element_at all) 8 l.at width l.j front
