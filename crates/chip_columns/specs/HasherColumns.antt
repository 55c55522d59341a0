-- The columns of the hasher table, by name (docs/CONSTRAINTS.md). A row is the list of its elements.
use Rattle.std.specs.Prelude.{ℕ, ◌+◌, List, slice_index, [], ◌∷◌}

-- 1 where the permutation is one of HPERM, 0 where it is of a hash
abbrev pub mode : List ℕ → ℕ
mode row = slice_index row 0

-- 1 where the hash began in an earlier permutation
abbrev pub cont : List ℕ → ℕ
cont row = slice_index row 1

-- 1 in the last row of a permutation that the hash goes on behind
abbrev pub more : List ℕ → ℕ
more row = slice_index row 2

-- elements of the state
abbrev pub x : List ℕ → ℕ → ℕ
x row j = slice_index row (3 + j)

-- the state of the permutation
unfoldable pub state : List ℕ → List ℕ
state row =
    x row 0 ∷ x row 1 ∷ x row 2 ∷ x row 3 ∷ x row 4 ∷ x row 5 ∷ x row 6 ∷ x row 7 ∷ x row 8 ∷ x row 9 ∷ x row 10 ∷ x row 11 ∷ []
