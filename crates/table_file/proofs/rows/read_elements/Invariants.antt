use Rattle.table_file.proofs.Words.{◌≡◌, ℕ, List, take, length, element_at, StandsAt}
use Rattle.table_file.proofs.Going.{Goes}
use Rattle.table_file.proofs.rows.read_elements.Given as goal

-- what is read so far, with what the rest reads as, is the whole row
abbrev pub invariant-loop-j : goal.invariant-loop-j
invariant-loop-j g l = record {
  goes : (all : List ℕ) → StandsAt all l.at l.whole → Goes (element_at all) 8 l.at g.row.W l.j (take l.j l.row);
  wide : length l.row ≡ g.row.W;
}
