use Rattle.table_file.proofs.Words.{◌≡◌, ℕ, List, take, length, IsTrue, element_at, StandsAt}
use Rattle.table_file.proofs.Going.{Goes}
use Rattle.table_file.proofs.rows.are_elements.Given as goal

-- where all were elements so far, these with what the rest reads as are the whole row
abbrev pub invariant-loop-j : goal.invariant-loop-j
invariant-loop-j g l = record {
  goes : IsTrue l.are → (all : List ℕ) (at : ℕ) → StandsAt all at l.part → Goes (element_at all) 8 at g.row.W l.j (take l.j l.row);
  wide : length l.row ≡ g.row.W;
}
