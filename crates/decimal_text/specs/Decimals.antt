-- An element in a line.
use Rattle.std.specs.Prelude.{ℕ, List, ◌∷◌, decimal}

-- a space, and the element in decimal
abbrev pub element_text : ℕ → List ℕ
element_text x = 32 ∷ decimal x
