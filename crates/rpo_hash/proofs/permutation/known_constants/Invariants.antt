use Rattle.std.proofs.Common.{◌≡◌, ℕ, ◌<◌, [], get_or, length}
use Rattle.rpo_hash.proofs.permutation.known_constants.Given as goal

abbrev pub invariant-loop-k : goal.invariant-loop-k
invariant-loop-k l =
    (j : ℕ) → j < l.k → (length (get_or l.params.first j []) ≡ 12) × (length (get_or l.params.second j []) ≡ 12)
