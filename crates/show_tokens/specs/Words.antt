-- Words and texts as they are told, and sentences of them (docs/SHOW.md, "why").
use Rattle.std.specs.Prelude.{ℕ, List, ◌++◌, codes, take}
use Rattle.std.specs.List.{flat_map}

-- of a word of a source so many bytes are told
abbrev pub most_word : ℕ
most_word = 100

abbrev pub word : List ℕ → List ℕ
word text = take most_word text

-- words and texts, one behind the other, as a line
unfoldable pub sentence : List (List ℕ) → List ℕ
sentence pieces = flat_map (λ piece. piece) pieces ++ codes "\n"
