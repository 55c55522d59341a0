-- What blocks leave in a sponge, and that a digest is a word.
use Rattle.std.proofs.Common.{◌≡◌, ℕ, ◌<◌, List, [], ◌∷◌, ◌++◌, length, take, drop, refl, arith, length-drop}
use Rattle.std.proofs.lemmas.List.{length-take-le}
use Rattle.std.proofs.lemmas.List.Sums.{fold-append}
use Rattle.vm_field.specs.Limits.{number_of_constants}
use Rattle.vm_field.specs.Sponge.{absorbed, begun, hashed, sponge_after, squeezed}
use Rattle.vm_field.specs.Machine.{IsWord}
use Rattle.rpo_hash.specs.States.{IsState}
use Rattle.vm_field.proofs.Elements.{elements-drop, elements-take}
use Rattle.rpo_hash.proofs.OneToOne.{permuted-IsState}

-- one block more
pub sponge_after-push : (constants state : List ℕ) (blocks : List (List ℕ)) (block : List ℕ)
    → sponge_after constants state (blocks ++ block ∷ []) ≡ absorbed constants (sponge_after constants state blocks) block
sponge_after-push constants state blocks block = fold-append (absorbed constants) state blocks (block ∷ [])

pub hashed-is : (constants : List ℕ) (domain : ℕ) (blocks : List (List ℕ))
    → hashed constants domain blocks ≡ squeezed (sponge_after constants (begun domain) blocks)
unfolding hashed
hashed-is constants domain blocks = refl

after_some : (constants state : List ℕ) (block : List ℕ) (blocks : List (List ℕ)) → length constants ≡ number_of_constants
    → IsState (sponge_after constants state (block ∷ blocks))
after_some constants state block [] len = permuted-IsState constants (take 4 state ++ block) len
after_some constants state block (next ∷ blocks) len = after_some constants (absorbed constants state block) next blocks len

squeezed-IsWord : (state : List ℕ) → IsState state → IsWord (squeezed state)
squeezed-IsWord state s = record {
  size = length-take-le 4 (drop 4 state) (omega (arith, length-drop 4 state, s.size));
  below = elements-take 4 (drop 4 state) (elements-drop 4 state s.below);
}

pub hashed-IsWord : (constants : List ℕ) (domain : ℕ) (blocks : List (List ℕ)) → length constants ≡ number_of_constants → 0 < length blocks
    → IsWord (hashed constants domain blocks)
unfolding hashed
hashed-IsWord constants domain [] len some = absurd (omega arith)
hashed-IsWord constants domain (block ∷ blocks) len some =
    squeezed-IsWord (sponge_after constants (begun domain) (block ∷ blocks)) (after_some constants (begun domain) block blocks len)
