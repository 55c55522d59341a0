-- The first fault of lists that are joined.
use Rattle.std.proofs.Common.{◌≡◌, ℕ, ◌+◌, List, ◌++◌, length, Option, sym, ap, ap₂, ◌∙◌}
use Rattle.air_kit.proofs.FaultLemmas.{first_append}
use Rattle.air_kit.specs.Places.{first_fault_of, or_next}

-- the three lists of the hasher's entries
pub first_of_three : (flags chain round : List ℕ) (in_flags in_chain in_round in_later in_all : Option (ℕ × ℕ)) → length flags ≡ 13
    → length chain ≡ 4 → in_flags ≡ first_fault_of 1 flags → in_chain ≡ first_fault_of 14 chain → in_round ≡ first_fault_of 18 round
    → in_later ≡ or_next in_chain in_round → in_all ≡ or_next in_flags in_later
    → in_all ≡ first_fault_of 1 (flags ++ (chain ++ round))
first_of_three flags chain round in_flags in_chain in_round in_later in_all lf lc ef ec er el ea =
    ea ∙ ap₂ or_next ef (el ∙ ap₂ or_next ec er ∙ sym later) ∙ sym all
  where
    later : first_fault_of 14 (chain ++ round) ≡ or_next (first_fault_of 14 chain) (first_fault_of 18 round)
    later = first_append 14 chain round ∙ ap (λ k. or_next (first_fault_of 14 chain) (first_fault_of (14 + k) round)) lc

    all : first_fault_of 1 (flags ++ (chain ++ round)) ≡ or_next (first_fault_of 1 flags) (first_fault_of 14 (chain ++ round))
    all =
        first_append 1 flags (chain ++ round)
        ∙ ap (λ k. or_next (first_fault_of 1 flags) (first_fault_of (1 + k) (chain ++ round))) lf
