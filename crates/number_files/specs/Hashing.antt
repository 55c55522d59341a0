-- The digest of numbers.
use Rattle.std.specs.Prelude.{ℕ, zero, suc, ◌/◌, List, [], ◌∷◌, length, take, drop}
use Rattle.vm_field.specs.Sponge.{hashed}

-- k blocks of eight
unfoldable pub blocks_of : ℕ → List ℕ → List (List ℕ)
blocks_of zero elements = []
blocks_of (suc k) elements = take 8 elements ∷ blocks_of k (drop 8 elements)

-- the digest of elements, eight to a block, with domain 0
abbrev pub digest_of_elements : List ℕ → List ℕ → List ℕ
digest_of_elements constants elements = hashed constants 0 (blocks_of (length elements / 8) elements)
