-- The first fault of both lists of entries, one behind the other.
use Rattle.std.proofs.Common.{◌≡◌, ℕ, ◌+◌, List, ◌++◌, length, Option, refl, sym, ap, ap₂, ◌∙◌}
use Rattle.air_kit.proofs.FaultLemmas.{first_append}
use Rattle.air_kit.specs.MemoryValues.{access_values, memory_values, word_values}
use Rattle.air_kit.specs.Places.{Spot, first_fault_of, or_next}

access_values-length : (p : Spot) → length (access_values p) ≡ 9
unfolding access_values
access_values-length p = refl

both : (accesses words : List ℕ) → length accesses ≡ 9
    → first_fault_of 1 (accesses ++ words) ≡ or_next (first_fault_of 1 accesses) (first_fault_of 10 words)
both accesses words size =
    first_append 1 accesses words ∙ ap (λ k. or_next (first_fault_of 1 accesses) (first_fault_of (1 + k) words)) size

pub first_of_memory : (p : Spot) (in_accesses in_words in_all : Option (ℕ × ℕ)) → in_accesses ≡ first_fault_of 1 (access_values p)
    → in_words ≡ first_fault_of 10 (word_values p) → in_all ≡ or_next in_accesses in_words → in_all ≡ first_fault_of 1 (memory_values p)
unfolding memory_values
first_of_memory p in_accesses in_words in_all ea ew e =
    e ∙ ap₂ or_next ea ew ∙ sym (both (access_values p) (word_values p) (access_values-length p))
