-- The permutation of twelve elements, of the Rescue Prime kind (docs/HASH.md).
-- Its constants are a list of 168 elements: for each of seven rounds twelve first ones, then twelve second ones.
use Rattle.std.specs.Prelude.{ℕ, zero, suc, ◌+◌, ◌*◌, ◌%◌, List, [], ◌∷◌, ◌++◌, map, take, drop, slice_index}
use Rattle.vm_field.specs.Field.{prime, felt_add, felt_pow, seventh_root}

-- the first row of the matrix, times the state
unfoldable pub row_product : List ℕ → ℕ
row_product x =
    (7 * slice_index x 0 + 23 * slice_index x 1 + 8 * slice_index x 2 + 26 * slice_index x 3
    + 13 * slice_index x 4 + 10 * slice_index x 5 + 9 * slice_index x 6 + 7 * slice_index x 7
    + 6 * slice_index x 8 + 22 * slice_index x 9 + 21 * slice_index x 10 + 8 * slice_index x 11) % prime

-- the state rotated left by i places
abbrev pub rotated : ℕ → List ℕ → List ℕ
rotated i x = drop i x ++ take i x

-- The matrix times the state. Each row is the one above rotated right by one, so that row i times the state is
-- the first row times the state rotated left by i.
unfoldable pub mixed : List ℕ → List ℕ
mixed x =
    row_product (rotated 0 x) ∷ row_product (rotated 1 x) ∷ row_product (rotated 2 x) ∷ row_product (rotated 3 x)
    ∷ row_product (rotated 4 x) ∷ row_product (rotated 5 x) ∷ row_product (rotated 6 x) ∷ row_product (rotated 7 x)
    ∷ row_product (rotated 8 x) ∷ row_product (rotated 9 x) ∷ row_product (rotated 10 x) ∷ row_product (rotated 11 x) ∷ []

-- element by element
abbrev pub added : List ℕ → List ℕ → List ℕ
added [] constants = []
added (x ∷ xs) [] = []
added (x ∷ xs) (c ∷ constants) = felt_add x c ∷ added xs constants

abbrev pub seventh_powers : List ℕ → List ℕ
seventh_powers x = map (λ e. felt_pow e 7) x

abbrev pub seventh_roots : List ℕ → List ℕ
seventh_roots x = map seventh_root x

-- the 24 constants of a round, counted from 0
abbrev pub round_constants : List ℕ → ℕ → List ℕ
round_constants constants k = take 24 (drop (24 * k) constants)

-- the first half of a round: matrix, first constants, seventh powers
unfoldable pub powered : List ℕ → List ℕ → List ℕ
powered constants x = seventh_powers (added (mixed x) constants)

-- the state of a round before its seventh roots: matrix and second constants behind the first half
unfoldable pub before_roots : List ℕ → List ℕ → List ℕ
before_roots constants x = added (mixed (powered (take 12 constants) x)) (take 12 (drop 12 constants))

-- one round under its 24 constants
unfoldable pub round : List ℕ → List ℕ → List ℕ
round constants x = seventh_roots (before_roots constants x)

-- that many rounds under the constants, 24 each
unfoldable pub rounds : ℕ → List ℕ → List ℕ → List ℕ
rounds zero constants x = x
rounds (suc n) constants x = rounds n (drop 24 constants) (round (take 24 constants) x)

unfoldable pub permuted : List ℕ → List ℕ → List ℕ
permuted constants x = rounds 7 constants x
