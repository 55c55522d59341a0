-- The first numbers of a list, and 0 where it has ended.
use Rattle.std.specs.Prelude.{ℕ, List, [], ◌∷◌, slice_index}

abbrev pub four_of : List ℕ → List ℕ
four_of xs = slice_index xs 0 ∷ slice_index xs 1 ∷ slice_index xs 2 ∷ slice_index xs 3 ∷ []

abbrev pub eight_of : List ℕ → List ℕ
eight_of xs =
    slice_index xs 0 ∷ slice_index xs 1 ∷ slice_index xs 2 ∷ slice_index xs 3 ∷ slice_index xs 4 ∷ slice_index xs 5
    ∷ slice_index xs 6 ∷ slice_index xs 7 ∷ []

abbrev pub ten_of : List ℕ → List ℕ
ten_of xs =
    slice_index xs 0 ∷ slice_index xs 1 ∷ slice_index xs 2 ∷ slice_index xs 3 ∷ slice_index xs 4 ∷ slice_index xs 5
    ∷ slice_index xs 6 ∷ slice_index xs 7
    ∷ slice_index xs 8 ∷ slice_index xs 9 ∷ []

abbrev pub sixteen_of : List ℕ → List ℕ
sixteen_of xs =
    slice_index xs 0 ∷ slice_index xs 1 ∷ slice_index xs 2 ∷ slice_index xs 3 ∷ slice_index xs 4 ∷ slice_index xs 5
    ∷ slice_index xs 6 ∷ slice_index xs 7
    ∷ slice_index xs 8 ∷ slice_index xs 9 ∷ slice_index xs 10 ∷ slice_index xs 11 ∷ slice_index xs 12 ∷ slice_index xs 13 ∷ slice_index xs 14
    ∷ slice_index xs 15 ∷ []
