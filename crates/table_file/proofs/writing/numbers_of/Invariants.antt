use Rattle.table_file.proofs.Words.{◌≡◌, [], get_or, length, take}
use Rattle.table_file.proofs.writing.numbers_of.Given as goal

-- the first elements are there
abbrev pub invariant-loop-j : goal.invariant-loop-j
invariant-loop-j g l = (length l.numbers ≡ g.row.W) × (take l.j l.numbers ≡ take l.j (get_or l.table l.i []))
