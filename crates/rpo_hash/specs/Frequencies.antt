-- Halves of a state's elements, their frequencies, and the rows of the permutation's matrix on them.
use Rattle.std.specs.Prelude.{◌≡◌, ℕ, ◌+◌, ◌-◌, ◌*◌, ◌/◌, ◌%◌, ◌^◌, ◌<◌, ◌≤◌, List, [], ◌∷◌}
use Rattle.rpo_hash.specs.declared.frequencies.Four.{Four}
use Rattle.rpo_hash.specs.declared.frequencies.Thirds.{Thirds}
use Rattle.rpo_hash.specs.declared.frequencies.Frequencies.{Frequencies}
use Rattle.rpo_hash.specs.declared.frequencies.TheConstants.{RAISE, RAISED}
use Rattle.vm_field.specs.Field.{prime}

-- four numbers of 32 bits
abbrev pub AreHalves : Four → Type 0
AreHalves x = (x.first < 2 ^ 32) × (x.second < 2 ^ 32) × (x.third < 2 ^ 32) × (x.fourth < 2 ^ 32)

-- the low and the high 32 bits of four numbers
abbrev pub AreLow : Four → ℕ → ℕ → ℕ → ℕ → Type 0
AreLow x a b c d = (x.first ≡ a % 2 ^ 32) × (x.second ≡ b % 2 ^ 32) × (x.third ≡ c % 2 ^ 32) × (x.fourth ≡ d % 2 ^ 32)

abbrev pub AreHigh : Four → ℕ → ℕ → ℕ → ℕ → Type 0
AreHigh x a b c d = (x.first ≡ a / 2 ^ 32) × (x.second ≡ b / 2 ^ 32) × (x.third ≡ c / 2 ^ 32) × (x.fourth ≡ d / 2 ^ 32)

-- what four numbers of 32 bits can have as their frequencies
abbrev pub AreSmall : Frequencies → Type 0
AreSmall f = (f.sum ≤ 2 * RAISE) × (f.real ≤ 2 * RAISE) × (f.imaginary ≤ 2 * RAISE) × (f.alternating ≤ 2 * RAISE)

-- what the matrix makes of those
abbrev pub AreLarger : Frequencies → Type 0
AreLarger f = (f.sum ≤ 80 * RAISE) × (f.real ≤ 34 * RAISE) × (f.imaginary ≤ 34 * RAISE) × (f.alternating ≤ 20 * RAISE)

-- the first row of the matrix times twelve numbers
abbrev pub row_sum : ℕ → ℕ → ℕ → ℕ → ℕ → ℕ → ℕ → ℕ → ℕ → ℕ → ℕ → ℕ → ℕ
row_sum a b c d e f g h i j k l =
    7 * a + 23 * b + 8 * c + 26 * d + 13 * e + 10 * f + 9 * g + 7 * h + 6 * i + 22 * j + 21 * k + 8 * l

-- each row times twelve numbers, raised
abbrev pub AreRows : Thirds → ℕ → ℕ → ℕ → ℕ → ℕ → ℕ → ℕ → ℕ → ℕ → ℕ → ℕ → ℕ → Type 0
AreRows r a b c d e f g h i j k l =
    (r.zero.first ≡ row_sum a b c d e f g h i j k l + 27 * RAISE)
    × (r.one.first ≡ row_sum b c d e f g h i j k l a + 27 * RAISE)
    × (r.two.first ≡ row_sum c d e f g h i j k l a b + 27 * RAISE)
    × (r.zero.second ≡ row_sum d e f g h i j k l a b c + 27 * RAISE)
    × (r.one.second ≡ row_sum e f g h i j k l a b c d + 27 * RAISE)
    × (r.two.second ≡ row_sum f g h i j k l a b c d e + 27 * RAISE)
    × (r.zero.third ≡ row_sum g h i j k l a b c d e f + 27 * RAISE)
    × (r.one.third ≡ row_sum h i j k l a b c d e f g + 27 * RAISE)
    × (r.two.third ≡ row_sum i j k l a b c d e f g h + 27 * RAISE)
    × (r.zero.fourth ≡ row_sum j k l a b c d e f g h i + 27 * RAISE)
    × (r.one.fourth ≡ row_sum k l a b c d e f g h i j + 27 * RAISE)
    × (r.two.fourth ≡ row_sum l a b c d e f g h i j k + 27 * RAISE)

-- a raised row, which leaves room for the two halves' sum
abbrev pub IsRaised : ℕ → Type 0
IsRaised n = (27 * RAISE ≤ n) × (n < 2 ^ 41)

abbrev pub AreRaised : Thirds → Type 0
AreRaised r =
    IsRaised r.zero.first
    × IsRaised r.one.first
    × IsRaised r.two.first
    × IsRaised r.zero.second
    × IsRaised r.one.second
    × IsRaised r.two.second
    × IsRaised r.zero.third
    × IsRaised r.one.third
    × IsRaised r.two.third
    × IsRaised r.zero.fourth
    × IsRaised r.one.fourth
    × IsRaised r.two.fourth

-- the element of a raised row of low halves and of high ones
abbrev pub joined : ℕ → ℕ → ℕ
joined low high = (low + 2 ^ 32 * high - RAISED) % prime

abbrev pub all_joined : Thirds → Thirds → List ℕ
all_joined low high =
    joined low.zero.first high.zero.first
    ∷ joined low.one.first high.one.first
    ∷ joined low.two.first high.two.first
    ∷ joined low.zero.second high.zero.second
    ∷ joined low.one.second high.one.second
    ∷ joined low.two.second high.two.second
    ∷ joined low.zero.third high.zero.third
    ∷ joined low.one.third high.one.third
    ∷ joined low.two.third high.two.third
    ∷ joined low.zero.fourth high.zero.fourth
    ∷ joined low.one.fourth high.one.fourth
    ∷ joined low.two.fourth high.two.fourth ∷ []
