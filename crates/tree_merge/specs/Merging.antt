-- Trees whose addresses are those of their hashes, and what it is to merge two of one digest. The permutation's constants are an
-- argument throughout, and so is what is hashed at an address, where a hash begins there.
use Rattle.std.specs.Prelude.{◌≡◌, ℕ, nat_eq, if◌then◌else◌, Bool, true, false, List, [], ◌∷◌, ◌++◌, length, Option, Some}
use lib.Pointwise.{pointwise}
use Rattle.vm_field.specs.Sponge.{HashInput}
use Rattle.vm_ops.specs.declared.op.Op.TheVariants as op
use Rattle.block_tree.specs.Trees.{Refines, input_of_batches, input_of_dyn, input_of_one, input_of_two}
use Rattle.tree_merge.specs.Placed.{PlacedTree, PlacedTargets, Opaque, Span, Join, Split, Loop, Call, Syscall, Dyn, no_placed, placed, placed_digest, plain, noted_at, Absent}

-- whether a digest is one of these
abbrev pub is_among : List ℕ → List (List ℕ) → Bool
is_among digest [] = false
is_among digest (other ∷ others) = if pointwise nat_eq other digest then true else is_among digest others

-- those of the second list that are not in the first, in order
abbrev pub not_among : List (List ℕ) → List (List ℕ) → List (List ℕ)
not_among known [] = []
not_among known (digest ∷ digests) = if is_among digest known then not_among known digests else digest ∷ not_among known digests

module _ (constants : List ℕ) (comp : ℕ → Option HashInput) where
  mutual
    -- At each address is hashed what the block there is hashed by, and the digests of children are words. Beside each target stands
    -- its digest, which no other target of the block has.
    pub data Good : PlacedTree → Type 0 where
      opaque : {digest : List ℕ} → Good (Opaque digest)
      span : {at : ℕ} {batches : List (List ℕ)} → comp at ≡ Some (input_of_batches batches) → Good (Span at batches)
      join : {at : ℕ} {a b : PlacedTree} → comp at ≡ Some (input_of_two op.Join (placed_digest constants a) (placed_digest constants b))
          → length (placed_digest constants a) ≡ 4 → Good a → Good b → Good (Join at a b)
      split : {at : ℕ} {a b : PlacedTree} → comp at ≡ Some (input_of_two op.Split (placed_digest constants a) (placed_digest constants b))
          → length (placed_digest constants a) ≡ 4 → Good a → Good b → Good (Split at a b)
      loop : {at : ℕ} {a : PlacedTree} → comp at ≡ Some (input_of_one op.Loop (placed_digest constants a))
          → length (placed_digest constants a) ≡ 4 → Good a → Good (Loop at a)
      call : {at : ℕ} {a : PlacedTree} → comp at ≡ Some (input_of_one op.Call (placed_digest constants a))
          → length (placed_digest constants a) ≡ 4 → Good a → Good (Call at a)
      syscall : {at : ℕ} {a : PlacedTree} → comp at ≡ Some (input_of_one op.Syscall (placed_digest constants a))
          → length (placed_digest constants a) ≡ 4 → Good a → Good (Syscall at a)
      dyn : {at : ℕ} {targets : PlacedTargets} → comp at ≡ Some input_of_dyn → AreGood targets → Good (Dyn at targets)

    pub data AreGood : PlacedTargets → Type 0 where
      none : AreGood no_placed
      more : {digest : List ℕ} {first : PlacedTree} {rest : PlacedTargets} → digest ≡ placed_digest constants first → Good first
          → Absent digest rest → AreGood rest → AreGood (placed digest first rest)

  -- two such trees of one digest
  pub record Mergeable (a b : PlacedTree) : Type 0 where
    pub first : Good a
    pub second : Good b
    pub digest : placed_digest constants a ≡ placed_digest constants b

  -- Such a tree that refines both. If the roots have targets, those of the first come first, and then those of the second whose digests
  -- the first has not.
  pub record Merged (a b m : PlacedTree) : Type 0 where
    pub first : Refines constants (plain m) (plain a)
    pub second : Refines constants (plain m) (plain b)
    pub good : Good m
    pub order : noted_at m ≡ noted_at a ++ not_among (noted_at a) (noted_at b)
