-- The values of a row of the bitwise table by its place of eight.
use Rattle.std.proofs.Common.{List, Option, ap, arith, nat_lt, ℕ, ◌%◌, ◌+◌, ◌<◌, ◌==◌, ◌≡◌}
use Rattle.air_kit.specs.BitwiseValues.{bitwise_values, bitwise_values_by}

pub values_at : (i k : ℕ) (cur : List ℕ) (next : Option (List ℕ)) → i % 8 ≡ 0 → k < 8
    → bitwise_values (record { row = i + k; cur = cur; next = next }) ≡ bitwise_values_by (k == 0) (nat_lt k 7) cur next
unfolding bitwise_values
values_at i k cur next start h =
    let place : (i + k) % 8 ≡ k = omega (arith, start, h) in ap (λ m. bitwise_values_by (m == 0) (nat_lt m 7) cur next) place
