-- Counts of faults, which stop at 2^64 - 1.
use Rattle.std.specs.Prelude.{ℕ, ◌+◌, ◌-◌, ◌^◌, ◌≤◌, min, max}

-- one more, up to the last count
abbrev pub one_more : ℕ → ℕ
one_more n = min (n + 1) (2 ^ 64 - 1)

-- The count rose, by one or more. It may stay where it is the last count, and never passes that.
pub record Rose (before now : ℕ) : Type 0 where
  pub later : before ≤ now
  pub risen : one_more before ≤ now
  pub within : now ≤ max before (2 ^ 64 - 1)
