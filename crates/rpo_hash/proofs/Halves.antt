-- The product by frequencies gives the rows of the permutation's matrix.
use Rattle.std.proofs.Common.{◌≡◌, ℕ, ◌+◌, ◌-◌, ◌*◌, ◌/◌, ◌%◌, ◌^◌, ap, arith}
use Rattle.rpo_hash.specs.declared.frequencies.Four.{Four}
use Rattle.rpo_hash.specs.declared.frequencies.Thirds.{Thirds}
use Rattle.rpo_hash.specs.declared.frequencies.TheConstants.{RAISE, RAISED}
use Rattle.rpo_hash.specs.Frequencies.{AreHigh, AreLow, AreRows, joined, row_sum}
use Rattle.vm_field.specs.Field.{prime}

-- a row times numbers is that row times their low halves, and 2^32 times that row times their high halves
pub row_of_halves : (a b c d e f g h i j k l low high : ℕ)
    → low ≡ row_sum (a % 2 ^ 32) (b % 2 ^ 32) (c % 2 ^ 32) (d % 2 ^ 32) (e % 2 ^ 32) (f % 2 ^ 32)
    (g % 2 ^ 32) (h % 2 ^ 32) (i % 2 ^ 32) (j % 2 ^ 32) (k % 2 ^ 32) (l % 2 ^ 32) + 27 * RAISE
    → high ≡ row_sum (a / 2 ^ 32) (b / 2 ^ 32) (c / 2 ^ 32) (d / 2 ^ 32) (e / 2 ^ 32) (f / 2 ^ 32)
    (g / 2 ^ 32) (h / 2 ^ 32) (i / 2 ^ 32) (j / 2 ^ 32) (k / 2 ^ 32) (l / 2 ^ 32) + 27 * RAISE
    → joined low high ≡ row_sum a b c d e f g h i j k l % prime
row_of_halves a b c d e f g h i j k l low high of_low of_high =
    let sum : low + 2 ^ 32 * high - RAISED ≡ row_sum a b c d e f g h i j k l = omega arith in
    ap (λ n. n % prime) sum

-- rows times halves, by the numbers that the halves are of
pub rows_of_low : (r : Thirds) (x y z : Four) (a b c d e f g h i j k l : ℕ)
    → AreLow x a d g j → AreLow y b e h k → AreLow z c f i l
    → AreRows r x.first y.first z.first x.second y.second z.second
    x.third y.third z.third x.fourth y.fourth z.fourth
    → AreRows r (a % 2 ^ 32) (b % 2 ^ 32) (c % 2 ^ 32) (d % 2 ^ 32) (e % 2 ^ 32) (f % 2 ^ 32)
    (g % 2 ^ 32) (h % 2 ^ 32) (i % 2 ^ 32) (j % 2 ^ 32) (k % 2 ^ 32) (l % 2 ^ 32)
rows_of_low r x y z a b c d e f g h i j k l hx hy hz rows =
    rw (← hx.0, ← hy.0, ← hz.0, ← hx.1, ← hy.1, ← hz.1, ← hx.2, ← hy.2, ← hz.2, ← hx.3, ← hy.3, ← hz.3) rows

pub rows_of_high : (r : Thirds) (x y z : Four) (a b c d e f g h i j k l : ℕ)
    → AreHigh x a d g j → AreHigh y b e h k → AreHigh z c f i l
    → AreRows r x.first y.first z.first x.second y.second z.second
    x.third y.third z.third x.fourth y.fourth z.fourth
    → AreRows r (a / 2 ^ 32) (b / 2 ^ 32) (c / 2 ^ 32) (d / 2 ^ 32) (e / 2 ^ 32) (f / 2 ^ 32)
    (g / 2 ^ 32) (h / 2 ^ 32) (i / 2 ^ 32) (j / 2 ^ 32) (k / 2 ^ 32) (l / 2 ^ 32)
rows_of_high r x y z a b c d e f g h i j k l hx hy hz rows =
    rw (← hx.0, ← hy.0, ← hz.0, ← hx.1, ← hy.1, ← hz.1, ← hx.2, ← hy.2, ← hz.2, ← hx.3, ← hy.3, ← hz.3) rows
