-- What is hashed by a table and behind its last row by the blocks of a source.
use Rattle.std.proofs.Common.{◌≡◌, ℕ, zero, suc, ◌+◌, ◌-◌, ◌%◌, ◌<◌, ◌≤◌, ◌⊎◌, inl, inr, Bool, true, false, ◌==◌, cond, nat_le, List, [], ◌∷◌, length, drop, get_or, map, Option, Some, None, refl, sym, ap, subst, ◌∙◌, arith}
use Rattle.std.proofs.lemmas.Bool.{cases_lt}
use Rattle.std.proofs.lemmas.List.{drop_all, length-map}
use Rattle.vm_field.specs.Sponge.{HashInput}
use Rattle.air_kit.specs.Hashes.{computation_at, computation_from}
use Rattle.tree_merge.specs.FirstBlocks.{HasBlock, HasFirst, first_block_of, first_of}
use Rattle.tree_merge.specs.Merging as good
use Rattle.tree_merge.specs.Merging.{Good, AreGood}
use Rattle.tree_merge.specs.Placed.{PlacedTree, PlacedTargets}
use Rattle.tree_merge.specs.Sides.{AreUpTo, InEach}
use Rattle.source_check.specs.SourceNodes.{hashed_with, shown_block, first_or_zeros}
use Rattle.source_check.proofs.NumberedLemmas.{HashesFrom}

-- ---- addresses of a table
past-end : (n : ℕ) (rows : List (List ℕ)) → length rows ≤ n → drop n rows ≡ []
past-end n rows h = drop_all n rows h

no-computation : (test : Bool) (rest : List (List ℕ)) (input : HashInput) → rest ≡ [] → cond test (computation_from rest) None ≡ Some input → ⊥
no-computation true rest input e h = let same : None ≡ Some input = ap computation_from (sym e) ∙ h in cc
no-computation false rest input e h = cc

-- nothing is hashed behind the last row
pub computation-within : (rows : List (List ℕ)) (address : ℕ) (input : HashInput) → computation_at rows address ≡ Some input → address ≤ length rows
computation-within rows address input h = of (cases_lt (length rows) address)
  where
    of : (length rows < address) ⊎ (address ≤ length rows) → address ≤ length rows
    of (inr within) = within
    of (inl past) =
        absurd (no-computation (address % 8 == 1) (drop (address - 1) rows) input (past-end (address - 1) rows (omega (arith, past))) h)

le-true : (a b : ℕ) → a ≤ b → nat_le a b ≡ true
le-true a b h = grind arith

le-false : (a b : ℕ) → b < a → nat_le a b ≡ false
le-false a b h = grind arith

module _ (rows : List (List ℕ)) (inputs : List (Option HashInput)) where
  pub hashed-file : (address : ℕ) → address ≤ length rows → hashed_with rows inputs address ≡ computation_at rows address
  hashed-file address h =
      ap (λ b. cond b (computation_at rows address) (get_or (None ∷ inputs) (address - length rows) None)) (le-true address (length rows) h)

  pub hashed-node : (address : ℕ) → length rows < address → hashed_with rows inputs address ≡ get_or (None ∷ inputs) (address - length rows) None
  hashed-node address h =
      ap (λ b. cond b (computation_at rows address) (get_or (None ∷ inputs) (address - length rows) None)) (le-false address (length rows) h)

  -- what is hashed by the table is hashed
  pub hashed-more : (address : ℕ) (input : HashInput) → computation_at rows address ≡ Some input → hashed_with rows inputs address ≡ Some input
  hashed-more address input h = hashed-file address (computation-within rows address input h) ∙ h

-- ---- blocks behind the table
from-get : (comp : ℕ → Option HashInput) (at : ℕ) (xs : List (Option HashInput)) → ((k : ℕ) → comp (at + k) ≡ get_or xs k None) → HashesFrom comp at xs
from-get comp at [] h = tt
from-get comp at (x ∷ xs) h = (
  (let e : at ≡ at + 0 = omega arith in ap comp e) ∙ h 0,
  from-get comp (at + 1) xs (λ k. (let e : at + 1 + k ≡ at + suc k = omega arith in ap comp e) ∙ h (suc k)),
)

pub hashed-from : (rows : List (List ℕ)) (inputs : List (Option HashInput)) → HashesFrom (hashed_with rows inputs) (length rows + 1) inputs
hashed-from rows inputs = from-get (hashed_with rows inputs) (length rows + 1) inputs (λ k.
    let above : length rows < length rows + 1 + k = omega arith in
    let place : length rows + 1 + k - length rows ≡ suc k = omega arith in
    hashed-node rows inputs (length rows + 1 + k) above ∙ ap (λ n. get_or (None ∷ inputs) n None) place)

-- ---- trees
module _ (constants : List ℕ) where
  module _ (comp other : ℕ → Option HashInput) (more : (at : ℕ) (input : HashInput) → comp at ≡ Some input → other at ≡ Some input) where
    mutual
      pub good-more : {x : PlacedTree} → Good constants comp x → Good constants other x
      good-more good.opaque = good.opaque
      good-more (good.span e) = good.span (more _ _ e)
      good-more (good.join e l g h) = good.join (more _ _ e) l (good-more g) (good-more h)
      good-more (good.split e l g h) = good.split (more _ _ e) l (good-more g) (good-more h)
      good-more (good.loop e l g) = good.loop (more _ _ e) l (good-more g)
      good-more (good.call e l g) = good.call (more _ _ e) l (good-more g)
      good-more (good.syscall e l g) = good.syscall (more _ _ e) l (good-more g)
      good-more (good.dyn e g) = good.dyn (more _ _ e) (all-good-more g)

      all-good-more : {xs : PlacedTargets} → AreGood constants comp xs → AreGood constants other xs
      all-good-more good.none = good.none
      all-good-more (good.more e g a gs) = good.more e (good-more g) a (all-good-more gs)

  module _ (rows : List (List ℕ)) where
    within : (address : ℕ) (input : HashInput) → computation_at rows address ≡ Some input → address ≤ length rows
    within = computation-within rows

    mutual
      -- the addresses of hashes of a table are those of its rows
      pub good-within : {x : PlacedTree} → Good constants (computation_at rows) x → AreUpTo (length rows) x
      good-within good.opaque = tt
      good-within (good.span e) = within _ _ e
      good-within (good.join e l g h) = (within _ _ e, good-within g, good-within h)
      good-within (good.split e l g h) = (within _ _ e, good-within g, good-within h)
      good-within (good.loop e l g) = (within _ _ e, good-within g)
      good-within (good.call e l g) = (within _ _ e, good-within g)
      good-within (good.syscall e l g) = (within _ _ e, good-within g)
      good-within (good.dyn e g) = (within _ _ e, all-within g)

      all-within : {xs : PlacedTargets} → AreGood constants (computation_at rows) xs → InEach (λ at. at ≤ length rows) xs
      all-within good.none = tt
      all-within (good.more e g a gs) = (good-within g, all-within gs)

-- ---- first blocks
pub shown-first : (found : Option HashInput) → HasBlock found → shown_block found ≡ first_block_of found
shown-first None h = absurd h
shown-first (Some input) h = of input.blocks h
  where
    of : (blocks : List (List ℕ)) → HasFirst blocks → first_or_zeros blocks ≡ first_of blocks
    of [] h = absurd h
    of (block ∷ blocks) h = refl

some-within : (inputs : List (Option HashInput)) (k : ℕ) → HasBlock (get_or inputs k None) → k < length inputs
some-within [] k h = absurd h
some-within (input ∷ inputs) zero h = omega arith
some-within (input ∷ inputs) (suc k) h = let l = some-within inputs k h in omega (arith, l)

shown-at : (inputs : List (Option HashInput)) (k : ℕ) (d : List ℕ) → HasBlock (get_or inputs k None)
    → get_or (map shown_block inputs) k d ≡ first_block_of (get_or inputs k None)
shown-at [] k d h = absurd h
shown-at (input ∷ inputs) zero d h = shown-first input h
shown-at (input ∷ inputs) (suc k) d h = shown-at inputs k d h

-- a block behind the table has its first block in the list
pub record HasShown (rows : List (List ℕ)) (inputs : List (Option HashInput)) (blocks : List (List ℕ)) (address : ℕ) : Type 0 where
  pub within : address - length rows - 1 < length blocks
  pub block : (d : List ℕ) → get_or blocks (address - length rows - 1) d ≡ first_block_of (hashed_with rows inputs address)

pub node-shown : (rows : List (List ℕ)) (inputs : List (Option HashInput)) (blocks : List (List ℕ)) (address : ℕ) → length rows < address
    → blocks ≡ map shown_block inputs → HasBlock (hashed_with rows inputs address) → HasShown rows inputs blocks address
node-shown rows inputs blocks address past are h =
    let place : address - length rows ≡ suc (address - length rows - 1) = omega (arith, past) in
    let found : hashed_with rows inputs address ≡ get_or inputs (address - length rows - 1) None
    = hashed-node rows inputs address past ∙ ap (λ n. get_or (None ∷ inputs) n None) place in
    let has = subst HasBlock found h in
    record {
      within = let l = some-within inputs (address - length rows - 1) has in let size = ap length are ∙ length-map inputs shown_block in omega (arith, l, size);
      block = λ d. ap (λ bs. get_or bs (address - length rows - 1) d) are ∙ shown-at inputs (address - length rows - 1) d has ∙ sym (ap first_block_of found);
    }
