use Rattle.fill_chips.proofs.Words.{◌≡◌, ◌++◌, ℕ, List, round_states}
use Rattle.fill_chips.proofs.PermLemmas.{first_rows}
use Rattle.fill_chips.proofs.hasher.push_permutation.Given as goal

abbrev pub invariant-loop-k : goal.invariant-loop-k
invariant-loop-k l = (constants : List ℕ) → l.states ≡ round_states constants l.perm.start
    → l.table ≡ l.initial.table ++ first_rows constants l.perm l.k
