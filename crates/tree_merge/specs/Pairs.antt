-- Two hashes of different inputs that have one digest. The permutation's constants are an argument throughout, and so is what is
-- hashed at an address, where a hash begins there.
use Rattle.std.specs.Prelude.{◌≡◌, ◌≢◌, ℕ, ◌<◌, min, max, List, Option, Some}
use Rattle.vm_field.specs.Sponge.{HashInput, digest_of_input}

module _ (constants : List ℕ) (comp : ℕ → Option HashInput) where
  pub record Differs (p q : ℕ) : Type 0 where
    pub one : HashInput
    pub other : HashInput
    pub one_is : comp p ≡ Some one
    pub other_is : comp q ≡ Some other
    pub differ : one ≢ other
    pub digest : digest_of_input constants one ≡ digest_of_input constants other

  -- the lower address comes first
  pub record IsPair (first second : ℕ) : Type 0 where
    pub ordered : first < second
    pub differs : Differs first second

-- two addresses whose inputs differ are a pair, in their order
abbrev pub DiffersIsPair : Type 0
DiffersIsPair = (constants : List ℕ) (comp : ℕ → Option HashInput) (p q : ℕ) → Differs constants comp p q
    → IsPair constants comp (min p q) (max p q)

-- in the other order, they still differ
abbrev pub DiffersTurned : Type 0
DiffersTurned = (constants : List ℕ) (comp : ℕ → Option HashInput) (p q : ℕ) → Differs constants comp p q → Differs constants comp q p

-- an address does not differ from itself
abbrev pub DiffersApart : Type 0
DiffersApart = (constants : List ℕ) (comp : ℕ → Option HashInput) (p q : ℕ) → Differs constants comp p q → p ≢ q
