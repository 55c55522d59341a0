use Rattle.table_file.proofs.Words.{◌≡◌, ◌-◌, ◌≤◌, List, ℕ, [], ◌++◌, length, take, HasRead, HasTaken}
use Rattle.table_file.proofs.reader.TableReader.take_whole.Given as goal

-- the piece is read so far
abbrev pub invariant-loop-self : goal.invariant-loop-self
invariant-loop-self l = record {
  within : l.at ≤ length l.piece;
  empty : l.self.carried ≡ [];
  read : (before : List ℕ) → HasTaken l.fn.self before → HasRead l.self.stop l.self.part (before ++ take l.at l.piece);
}

abbrev pub decreases-loop-self : goal.decreases-loop-self
decreases-loop-self l = length l.piece - l.at
