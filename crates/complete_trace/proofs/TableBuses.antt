-- The buses of permutations, bitwise operations, memory and the kernel: a small table gives what the rows ask.
use Rattle.complete_rows.proofs.Words
use Words.{◌≡◌, ℕ, ◌+◌, List, arith, counted, counted-none, asked_on, given_on, Claim, Requests, Trace}
use Words.bus
use Rattle.air_kit.specs.Requests.{answers_on}
use Rattle.complete_requests.specs.Asked.{RowsAsk}
use Rattle.complete_trace.proofs.Quiet.{chips_give, chips_quiet, pairs_quiet}

answered : (asked more named given rest n : ℕ) → asked ≡ n → more ≡ 0 → named ≡ 0 → given ≡ 0 → rest ≡ n
    → asked + more ≡ named + given + rest
answered asked more named given rest n is zm zn zg gives = omega (arith, is, zm, zn, zg, gives)

module _ (k : Claim) (constants : List ℕ) (r : Requests) (t : Trace) (a : RowsAsk constants t.main r) (v : List ℕ) where
  pub hasher_alike : chips_give bus.Hasher t v ≡ counted (answers_on constants r bus.Hasher) v
      → asked_on k t bus.Hasher v ≡ given_on k t bus.Hasher v
  unfolding asked_on given_on
  hasher_alike gives = answered _ _ _ _ _ _ (a.hasher v) (chips_quiet t v) (counted-none v) (pairs_quiet t.main v) gives

  pub bitwise_alike : chips_give bus.Bitwise t v ≡ counted (answers_on constants r bus.Bitwise) v
      → asked_on k t bus.Bitwise v ≡ given_on k t bus.Bitwise v
  unfolding asked_on given_on
  bitwise_alike gives = answered _ _ _ _ _ _ (a.bitwise v) (chips_quiet t v) (counted-none v) (pairs_quiet t.main v) gives

  pub memory_alike : chips_give bus.Memory t v ≡ counted (answers_on constants r bus.Memory) v
      → asked_on k t bus.Memory v ≡ given_on k t bus.Memory v
  unfolding asked_on given_on
  memory_alike gives = answered _ _ _ _ _ _ (a.memory v) (chips_quiet t v) (counted-none v) (pairs_quiet t.main v) gives

  pub kernel_alike : chips_give bus.Kernel t v ≡ counted (answers_on constants r bus.Kernel) v
      → asked_on k t bus.Kernel v ≡ given_on k t bus.Kernel v
  unfolding asked_on given_on
  kernel_alike gives = answered _ _ _ _ _ _ (a.kernel v) (chips_quiet t v) (counted-none v) (pairs_quiet t.main v) gives
