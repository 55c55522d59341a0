-- Targets of dynamic blocks, with the digests that are noted beside them, and what it is to merge those of two blocks. The permutation's
-- constants are an argument throughout, and so is what is hashed at an address, where a hash begins there.
use Rattle.std.specs.Prelude.{◌≡◌, ◌≢◌, ℕ, ◌+◌, ◌<◌, List, [], ◌∷◌, ◌++◌, length, map, take, drop, All, Option, Some}
use Rattle.vm_field.specs.Sponge.{HashInput}
use Rattle.block_tree.specs.Trees.{Tree, RefinesFirst, first_target, targets_from}
use Rattle.tree_merge.specs.Placed.{Entry, placed_digest, plain}
use Rattle.tree_merge.specs.Merging.{Good, not_among}

-- the targets alone, without addresses
abbrev pub trees_in : List Entry → List Tree
trees_in entries = map (λ (entry : Entry). plain entry.tree) entries

-- the digests that are noted beside them
abbrev pub digests_in : List Entry → List (List ℕ)
digests_in entries = map (λ (entry : Entry). entry.digest) entries

-- no target has this digest noted beside it
abbrev pub HasNone : List ℕ → List Entry → Type 0
HasNone digest entries = All (λ (entry : Entry). entry.digest ≢ digest) entries

-- no two targets have one digest
abbrev pub Distinct : List Entry → Type 0
Distinct [] = Unit {0}
Distinct (entry ∷ entries) = HasNone entry.digest entries × Distinct entries

-- the first target of this digest has so many before it
pub record IsFirstAt (entries : List Entry) (digest : List ℕ) (i : ℕ) : Type 0 where
  pub inside : i < length entries
  pub entry : Entry
  pub is : drop i entries ≡ entry ∷ drop (i + 1) entries
  pub noted : entry.digest ≡ digest
  pub before : HasNone digest (take i entries)

-- for each digest, the first of the one list that has it refines the first of the other, where there is one
abbrev pub Covers : List ℕ → List Tree → List Tree → Type 0
Covers constants ts us = (digest : List ℕ)
    → RefinesFirst constants (first_target constants digest (targets_from ts)) (first_target constants digest (targets_from us))

module _ (constants : List ℕ) (comp : ℕ → Option HashInput) where
  -- its digest stands beside a target, whose addresses are those of its hashes
  pub record IsGoodEntry (entry : Entry) : Type 0 where
    pub noted : entry.digest ≡ placed_digest constants entry.tree
    pub good : Good constants comp entry.tree

  -- one target is merged into those that were there
  pub record IsAdded (old : List Entry) (entry : Entry) (new : List Entry) : Type 0 where
    pub covers : Covers constants (trees_in new) (trees_in old)
    pub has : RefinesFirst constants (first_target constants entry.digest (targets_from (trees_in new))) (Some (plain entry.tree))
    pub good : All IsGoodEntry new
    pub distinct : Distinct old → Distinct new
    pub order : digests_in new ≡ digests_in old ++ not_among (digests_in old) (entry.digest ∷ [])

  -- the targets of the second list are merged into those of the first
  pub record AreMerged (xs ys ms : List Entry) : Type 0 where
    pub first : Covers constants (trees_in ms) (trees_in xs)
    pub second : Covers constants (trees_in ms) (trees_in ys)
    pub good : All IsGoodEntry ms
    pub distinct : Distinct xs → Distinct ms
    pub order : Distinct ys → digests_in ms ≡ digests_in xs ++ not_among (digests_in xs) (digests_in ys)
