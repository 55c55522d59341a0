-- The values of digits stay small.
use Rattle.std.proofs.Common.{◌≡◌, ℕ, ◌+◌, ◌*◌, ◌^◌, ◌<◌, ◌≤◌, List, drop, arith, lit<}
use Rattle.std.proofs.Math.Nat.{mul-le-mul_left, pow-le-pow_right}
use Rattle.masm_reading.specs.Numbers.{value_from}

-- at 20 digits at most there is room for one more
pub with_room : (i v base : ℕ) → i ≤ 20 → v < 16 ^ i → base ≤ 16 → v * base + 16 < 2 ^ 100
with_room i v base within small few =
    omega (arith, pow-le-pow_right {n = 16} (lit< tt) within, mul-le-mul_left v few)

-- what the loop keeps
pub record Going (base value : ℕ) (digits : List ℕ) (i : ℕ) : Type 0 where
  pub goes : value_from base value (drop i digits) ≡ value_from base 0 digits
  pub small : value < 16 ^ i
