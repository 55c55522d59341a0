use Rattle.fill_chips.proofs.Words.{◌≡◌, List, ℕ, nat_eq, unwrap_or, take, get, pointwise, times_called}
use Rattle.fill_chips.proofs.kernel.times_of.Given as goal

abbrev pub invariant-loop-word : goal.invariant-loop-word
invariant-loop-word l = (u : List ℕ) → unwrap_or (get (pointwise nat_eq) l.times u) 0 ≡ times_called (take l.word-index l.calls) u
