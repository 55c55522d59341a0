-- Counts added place by place.
use Rattle.std.specs.Prelude.{◌≡◌, ℕ, ◌<◌, ◌≤◌, List, length, slice_index_or}
use Rattle.bus_kit.specs.Counting.{summed}

-- at the places below n the counts of another list were added, and the rest stayed
pub record IsAddedBelow (n : ℕ) (old other new : List (ℕ × ℕ)) : Type 0 where
  pub same_length : length new ≡ length old
  pub below : (v : ℕ) → v < n → slice_index_or new v (0, 0) ≡ summed (slice_index_or old v (0, 0)) (slice_index_or other v (0, 0))
  pub above : (v : ℕ) → n ≤ v → slice_index_or new v (0, 0) ≡ slice_index_or old v (0, 0)
