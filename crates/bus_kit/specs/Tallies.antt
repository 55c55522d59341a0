-- Both counts of each tuple, in tallies of elements and of the steps of hashes.
use Rattle.std.specs.Prelude.{ℕ, ◌==◌, if◌then◌else◌, List, length}
use Rattle.bus_kit.specs.Singles.{one_at}
use Rattle.bus_kit.specs.Widths.{tallied}
use Rattle.bus_kit.specs.declared.hasher.StepTally.{StepTally}
use Rattle.bus_kit.specs.declared.values.ValueTally.{ValueTally}

-- of a single element; none of another tuple
unfoldable pub values_tallied : ValueTally → List ℕ → ℕ × ℕ
values_tallied t u = one_at t.small.items (tallied t.great) u

-- the counts of one width, and others of all other widths
abbrev pub at_width : ℕ → (List ℕ → ℕ × ℕ) → (List ℕ → ℕ × ℕ) → List ℕ → ℕ × ℕ
at_width width counts others u = if length u == width then counts u else others u

-- of a step, in the tally of its width; none of a tuple of no such width
unfoldable pub steps_tallied : StepTally → List ℕ → ℕ × ℕ
steps_tallied t =
    at_width 6 (tallied t.ends) (at_width 10 (tallied t.batches) (at_width 11 (tallied t.starts) (at_width 14 (tallied t.states) (λ _. (0, 0)))))
