-- What tuples that are given on the hasher's bus mean.
use Rattle.std.specs.Prelude.{◌≡◌, ℕ, ◌+◌, ◌<◌, ◌≤◌, List, [], ◌∷◌, length, Some}
use Rattle.vm_field.specs.Permutation.{permuted}
use Rattle.vm_field.specs.Sponge.{HashInput, digest_of_input, hashed}
use Rattle.air_kit.specs.Hashes.{computation_at}

-- from this address on, these further blocks are given, and behind them this digest
unfoldable pub GivesOn : (List ℕ → ℕ) → ℕ → List (List ℕ) → List ℕ → Type 0
GivesOn given address [] digest = 0 < given (3 ∷ (address + 7) ∷ digest)
GivesOn given address (block ∷ blocks) digest =
    (0 < given (2 ∷ (address + 8) ∷ block)) × GivesOn given (address + 8) blocks digest

-- at this address begins the hash of this domain and these blocks, which has this digest
pub record IsHash (constants : List ℕ) (rows : List (List ℕ)) (address domain : ℕ) (blocks : List (List ℕ)) (digest : List ℕ) : Type 0 where
  pub computation : computation_at rows address ≡ Some (record { domain = domain; blocks = blocks })
  pub digest_is : digest ≡ hashed constants domain blocks

-- this computation is given whole at this address: its first block, the others, and its digest
pub record IsGivenWhole (constants : List ℕ) (given : List ℕ → ℕ) (address : ℕ) (input : HashInput) : Type 0 where
  pub block : List ℕ
  pub blocks : List (List ℕ)
  pub blocks_are : input.blocks ≡ block ∷ blocks
  pub opens : 0 < given (1 ∷ address ∷ input.domain ∷ block)
  pub goes_on : GivesOn given address blocks (digest_of_input constants input)

-- What a table gives: each tuple at most once, one at an address, and at addresses of its rows; hashes and permutations.
pub record TableGives (constants : List ℕ) (rows : List (List ℕ)) (given : List ℕ → ℕ) : Type 0 where
  pub once : (u : List ℕ) → given u ≤ 1
  pub one : (t s address : ℕ) (xs ys : List ℕ) → 0 < given (t ∷ address ∷ xs) → 0 < given (s ∷ address ∷ ys)
      → ◌≡◌ {A = List ℕ} (t ∷ address ∷ xs) (s ∷ address ∷ ys)
  pub place : (tag address : ℕ) (xs : List ℕ) → 0 < given (tag ∷ address ∷ xs) → (0 < address) × (address ≤ length rows)
  pub permutes : (address : ℕ) (before behind : List ℕ) → 0 < given (4 ∷ address ∷ before) → 0 < given (5 ∷ (address + 7) ∷ behind)
      → behind ≡ permuted constants before
  pub hashes : (address domain : ℕ) (block : List ℕ) (blocks : List (List ℕ)) (digest : List ℕ)
      → 0 < given (1 ∷ address ∷ domain ∷ block) → GivesOn given address blocks digest
      → IsHash constants rows address domain (block ∷ blocks) digest
  pub inputs : (address : ℕ) (input : HashInput) → computation_at rows address ≡ Some input → IsGivenWhole constants given address input
