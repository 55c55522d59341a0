-- The numbers of the entries of the kernel's table: the value of number n is that of the definition `entry_n`, in its place.
use Rattle.std.specs.Prelude.{◌≡◌, ℕ, ◌+◌, ◌<◌, length}
use Rattle.air_kit.specs.Places.{Claim, Spot, at_number}
use Rattle.air_kit.specs.KernelValues.{entry_1, kernel_values}

-- the value of a number, in a row of the table
abbrev pub kernel_value : Claim → Spot → ℕ → ℕ
kernel_value c p number = at_number (kernel_values c p) number

pub record HasKernelNumbers (c : Claim) (p : Spot) : Type 0 where
  pub count : length (kernel_values c p) ≡ 4
  pub number_1 : (j : ℕ) → j < 4 → kernel_value c p (1 + j) ≡ entry_1 j c p.row p.cur
