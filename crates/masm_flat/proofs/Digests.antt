-- The digest of a block's tree: its elements, and how many they are.
use Rattle.masm_flat.proofs.Words.{◌≡◌, ℕ, zero, suc, ◌<◌, List, [], ◌∷◌, ◌++◌, length, take, drop, refl, ◌∙◌, arith, length-map, All-from_recursion, prime}
use Rattle.masm_flat.proofs.Words.{AreElements, lit, Block, block_digest, digest_items}
use Rattle.vm_field.specs.Limits.{number_of_constants}
use Rattle.vm_field.specs.Machine.{IsWord}
use Rattle.vm_field.specs.Permutation.{round, rounds, permuted}
use Rattle.vm_field.specs.Sponge.{absorbed, begun, hashed, sponge_after, squeezed}
use Rattle.vm_field.proofs.Elements.{elements-drop, elements-take}
use Rattle.vm_field.proofs.PermutationLemmas.{elements-round}
use Rattle.rpo_hash.proofs.Digests.{hashed-IsWord}
use Rattle.masm_flat.specs.Blocks.{Span}

-- whatever the constants are
rounds-elements : (n : ℕ) (constants x : List ℕ) → AreElements (rounds (suc n) constants x)
unfolding rounds
rounds-elements zero constants x = elements-round (take 24 constants) x
rounds-elements (suc n) constants x = rounds-elements n (drop 24 constants) (round (take 24 constants) x)

permuted-elements : (constants x : List ℕ) → AreElements (permuted constants x)
unfolding permuted
permuted-elements constants x = rounds-elements 6 constants x

after-elements : (constants state block : List ℕ) (blocks : List (List ℕ)) → AreElements (sponge_after constants state (block ∷ blocks))
after-elements constants state block [] = permuted-elements constants (take 4 state ++ block)
after-elements constants state block (next ∷ blocks) = after-elements constants (absorbed constants state block) next blocks

-- the digest of no blocks
zeros-word : (domain : ℕ) → IsWord (squeezed (begun domain))
zeros-word domain = record {
  size = refl;
  below = All-from_recursion (λ e. e < prime) (0 ∷ 0 ∷ 0 ∷ 0 ∷ []) (omega arith, (omega arith, (omega arith, (omega arith, tt))));
}

hashed-elements : (constants : List ℕ) (domain : ℕ) (blocks : List (List ℕ)) → AreElements (hashed constants domain blocks)
unfolding hashed
hashed-elements constants domain [] = (zeros-word domain).below
hashed-elements constants domain (block ∷ blocks) =
    let state = sponge_after constants (begun domain) (block ∷ blocks) in
    elements-take 4 (drop 4 state) (elements-drop 4 state (after-elements constants (begun domain) block blocks))

hashed-word : (constants : List ℕ) (domain : ℕ) (blocks : List (List ℕ)) → length constants ≡ number_of_constants → IsWord (hashed constants domain blocks)
unfolding hashed
hashed-word constants domain [] count = zeros-word domain
hashed-word constants domain (block ∷ blocks) count = hashed-IsWord constants domain (block ∷ blocks) count (omega arith)

pub block-elements : (constants : List ℕ) (b : Block) → AreElements (block_digest constants b)
block-elements constants (Span items) = hashed-elements constants _ _
block-elements constants other = hashed-elements constants _ _

block-word : (constants : List ℕ) (b : Block) → length constants ≡ number_of_constants → IsWord (block_digest constants b)
block-word constants (Span items) count = hashed-word constants _ _ count
block-word constants other count = hashed-word constants _ _ count

-- a procref is four operations
pub four-items : (constants : List ℕ) (b : Block) → length constants ≡ number_of_constants → length (digest_items (block_digest constants b)) ≡ 4
four-items constants b count = length-map (block_digest constants b) lit ∙ (block-word constants b count).size
