use Rattle.fill_chips.proofs.Words.{◌≡◌, ◌*◌, All, length, min, take, vec_len, IsState, rows_of_perms}
use Rattle.fill_chips.proofs.hasher.hasher_table.Given as goal

abbrev pub invariant-loop-k : goal.invariant-loop-k
invariant-loop-k g l = record {
  rows : l.table ≡ rows_of_perms l.permutations (take (l.k * 1024) l.perms);
  states : All (λ p. IsState p.start) (take (l.k * 1024) l.perms);
  room : vec_len l.states ≡ min (length l.perms) 1024;
}
