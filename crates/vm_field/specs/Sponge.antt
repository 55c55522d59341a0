-- Hash inputs and their digests, by a sponge over the permutation: the capacity is elements 0 to 3, the rate elements 4 to 11.
use Rattle.std.specs.Prelude.{ℕ, List, [], ◌∷◌, ◌++◌, fold, take, drop}
use Rattle.vm_field.specs.Permutation.{permuted}

-- what is hashed: a domain and one or more blocks of eight elements
pub record HashInput : Type 0 where
  pub domain : ℕ
  pub blocks : List (List ℕ)

-- the state before the first block
abbrev pub begun : ℕ → List ℕ
begun domain = 0 ∷ domain ∷ 0 ∷ 0 ∷ 0 ∷ 0 ∷ 0 ∷ 0 ∷ 0 ∷ 0 ∷ 0 ∷ 0 ∷ []

-- a block overwrites the rate, and one permutation follows
abbrev pub absorbed : List ℕ → List ℕ → List ℕ → List ℕ
absorbed constants state block = permuted constants (take 4 state ++ block)

-- the state behind all blocks
abbrev pub sponge_after : List ℕ → List ℕ → List (List ℕ) → List ℕ
sponge_after constants state blocks = fold (absorbed constants) state blocks

-- elements 4 to 7
abbrev pub squeezed : List ℕ → List ℕ
squeezed state = take 4 (drop 4 state)

-- the digest of a domain and blocks
unfoldable pub hashed : List ℕ → ℕ → List (List ℕ) → List ℕ
hashed constants domain blocks = squeezed (sponge_after constants (begun domain) blocks)

abbrev pub digest_of_input : List ℕ → HashInput → List ℕ
digest_of_input constants input = hashed constants input.domain input.blocks
