-- The first block of what is hashed.
use Rattle.std.specs.Prelude.{ℕ, List, [], ◌∷◌, Option, Some, None}
use Rattle.vm_field.specs.Sponge.{HashInput}

abbrev pub HasFirst : List (List ℕ) → Type 0
HasFirst [] = ⊥
HasFirst (block ∷ blocks) = Unit {0}

abbrev pub first_of : List (List ℕ) → List ℕ
first_of [] = []
first_of (block ∷ blocks) = block

-- something is hashed
abbrev pub HasBlock : Option HashInput → Type 0
HasBlock None = ⊥
HasBlock (Some input) = HasFirst input.blocks

abbrev pub first_block_of : Option HashInput → List ℕ
first_block_of None = []
first_block_of (Some input) = first_of input.blocks
