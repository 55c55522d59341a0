-- Lists by their places.
use Rattle.std.proofs.Common.{◌≡◌, ◌++◌, ℕ, List, [], ◌∷◌, length, get_or, reverse, take, slice_index, refl, arith, ap₂}
use Rattle.fill_requests.specs.Parts.{four_of}

pub first_four : (xs : List ℕ) → length xs ≡ 8 → take 4 xs ≡ four_of xs
first_four (x0 ∷ x1 ∷ x2 ∷ x3 ∷ x4 ∷ x5 ∷ x6 ∷ x7 ∷ []) len = refl
first_four _ len = absurd (omega arith)

-- the first twelve of sixteen, the last of them first
pub twelve_turned : (xs : List ℕ) → length xs ≡ 16 → reverse (take 12 xs)
    ≡ slice_index xs 11 ∷ slice_index xs 10 ∷ slice_index xs 9 ∷ slice_index xs 8 ∷ slice_index xs 7 ∷ slice_index xs 6 ∷ slice_index xs 5
    ∷ slice_index xs 4 ∷ slice_index xs 3 ∷ slice_index xs 2 ∷ slice_index xs 1 ∷ slice_index xs 0 ∷ []
twelve_turned (x0 ∷ x1 ∷ x2 ∷ x3 ∷ x4 ∷ x5 ∷ x6 ∷ x7 ∷ x8 ∷ x9 ∷ x10 ∷ x11 ∷ x12 ∷ x13 ∷ x14 ∷ x15 ∷ []) len = refl
twelve_turned _ len = absurd (omega arith)

four_first : (xs : List ℕ) (a b c d : ℕ) → length xs ≡ 12 → get_or xs 0 a ∷ get_or xs 1 b ∷ get_or xs 2 c ∷ get_or xs 3 d ∷ [] ≡ take 4 xs
four_first (x0 ∷ x1 ∷ x2 ∷ x3 ∷ x4 ∷ x5 ∷ x6 ∷ x7 ∷ x8 ∷ x9 ∷ x10 ∷ x11 ∷ []) a b c d len = refl
four_first _ a b c d len = absurd (omega arith)

eight_places : (xs : List ℕ) (a b c d e f g h : ℕ) → length xs ≡ 8 → get_or xs 0 a ∷ get_or xs 1 b ∷ get_or xs 2 c ∷ get_or xs 3 d ∷ get_or xs 4 e
    ∷ get_or xs 5 f ∷ get_or xs 6 g ∷ get_or xs 7 h ∷ [] ≡ xs
eight_places (x0 ∷ x1 ∷ x2 ∷ x3 ∷ x4 ∷ x5 ∷ x6 ∷ x7 ∷ []) a b c d e f g h len = refl
eight_places _ a b c d e f g h len = absurd (omega arith)

-- a block behind the first four elements of a state, read place by place
pub block_in_rate : (state block : List ℕ) (a b c d e f g h i j k l : ℕ) → length state ≡ 12 → length block ≡ 8
    → get_or state 0 a ∷ get_or state 1 b ∷ get_or state 2 c ∷ get_or state 3 d ∷ get_or block 0 e ∷ get_or block 1 f ∷ get_or block 2 g
    ∷ get_or block 3 h ∷ get_or block 4 i ∷ get_or block 5 j ∷ get_or block 6 k ∷ get_or block 7 l ∷ [] ≡ take 4 state ++ block
block_in_rate state block a b c d e f g h i j k l ls lb =
    ap₂ (λ (xs ys : List ℕ). xs ++ ys) (four_first state a b c d ls) (eight_places block e f g h i j k l lb)
