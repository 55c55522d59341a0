use Rattle.fill_chips.proofs.Words.{◌≡◌, ◌++◌, ℕ, List, All, take, IsState, rows_of_perms, states_of}
use Rattle.fill_chips.proofs.hasher.push_permutations.Given as goal

abbrev pub invariant-loop-i : goal.invariant-loop-i
invariant-loop-i l = record {
  rows : (constants : List ℕ) → l.states ≡ states_of constants l.perms
      → l.table ≡ l.initial.table ++ rows_of_perms constants (take l.i l.perms);
  states : All (λ p. IsState p.start) (take l.i l.perms);
}
