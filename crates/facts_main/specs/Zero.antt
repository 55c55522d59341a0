-- Values that are all 0.
use Rattle.std.specs.Prelude.{◌≡◌, ℕ, List, slice_index}

abbrev pub AllZero : List ℕ → Type 0
AllZero values = (k : ℕ) → slice_index values k ≡ 0
