-- The constants of the permutation as one list.
use Rattle.std.specs.Prelude.{ℕ, List, [], ◌∷◌, ◌++◌}
use Rattle.rpo_hash.specs.declared.params.Params.{Params}

-- for each round its first constants, then its second ones
unfoldable pub interleaved : List (List ℕ) → List (List ℕ) → List ℕ
interleaved [] seconds = []
interleaved (first ∷ firsts) [] = []
interleaved (first ∷ firsts) (second ∷ seconds) = first ++ (second ++ interleaved firsts seconds)

abbrev pub constants_of : Params → List ℕ
constants_of params = interleaved params.first params.second
