-- Cells that are elements, values that are 0, and what holds of each of some values.
use Rattle.facts_memory.proofs.Words.{List, [], prime, slice_index, suc, zero, ℕ, ◌<◌, ◌∷◌, ◌≡◌}

-- each value is 0
abbrev pub AllZero : List ℕ → Type 0
AllZero values = (n : ℕ) → slice_index values n ≡ 0

-- each cell is an element
abbrev pub CellsBelow : List ℕ → Type 0
CellsBelow row = (k : ℕ) → slice_index row k < prime

-- what holds of each of some values
pub data Each (P : ℕ → Type 0) : List ℕ → Type 0 where
  no_values : Each P []
  value_then : {v : ℕ} {values : List ℕ} → P v → Each P values → Each P (v ∷ values)

-- it holds at each place, where it holds of 0, which stands past their end
pub each_at : (P : ℕ → Type 0) (values : List ℕ) → P 0 → Each P values → (n : ℕ) → P (slice_index values n)
each_at P values past no_values n = past
each_at P values past (value_then is each) zero = is
each_at P values past (value_then {values = later} is each) (suc n) = each_at P later past each n
