use Rattle.fill_chips.proofs.Words.{◌≡◌, ℕ, ◌<◌, [], length, get_or, states_of}
use Rattle.fill_chips.proofs.rounds.fill.Given as goal

abbrev pub invariant-loop-k : goal.invariant-loop-k
invariant-loop-k l =
    (length l.states ≡ length l.perms)
    × ((j : ℕ) → j < l.k → get_or l.states j [] ≡ get_or (states_of l.permutations l.perms) j [])
