-- The JSON arrays of numbers and of words' texts, and the numbers as they are written in one.
use Rattle.std.specs.Prelude.{ℕ, List, [], ◌∷◌, ◌++◌, map, decimal}
use Rattle.serde_json.specs.Data.{unsigned, number, string, Items}
use Rattle.serde_json.specs.View.{items_of}
use Rattle.vm_field.specs.WordText.{word_hex}

abbrev pub numbers_of : List ℕ → Items
numbers_of xs = items_of (map (λ x. number (unsigned x)) xs)

abbrev pub texts_of : List (List ℕ) → Items
texts_of words = items_of (map (λ w. string (word_hex w)) words)

-- decimals with commas between
abbrev pub listed : List ℕ → List ℕ
listed [] = []
listed (x ∷ []) = decimal x
listed (x ∷ y ∷ xs) = decimal x ++ 44 ∷ listed (y ∷ xs)
