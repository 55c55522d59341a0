-- Two blocks of one kind, at two addresses, that have one digest: what is known of their children.
use Rattle.std.specs.Prelude.{◌≡◌, ℕ, List, length, Option, Some}
use Rattle.vm_field.specs.Sponge.{HashInput, digest_of_input}
use Rattle.vm_ops.specs.declared.op.Op.{Op}
use Rattle.block_tree.specs.Trees.{input_of_one, input_of_two}
use Rattle.tree_merge.specs.Placed.{PlacedTree, placed_digest}
use Rattle.tree_merge.specs.Merging.{Good}

module _ (constants : List ℕ) (comp : ℕ → Option HashInput) where
  -- blocks with two children, a and b the one, c and d the other
  pub record AreTwos (p q : ℕ) (a b c d : PlacedTree) : Type 0 where
    pub start : Op
    pub one : comp p ≡ Some (input_of_two start (placed_digest constants a) (placed_digest constants b))
    pub other : comp q ≡ Some (input_of_two start (placed_digest constants c) (placed_digest constants d))
    pub digest : digest_of_input constants (input_of_two start (placed_digest constants a) (placed_digest constants b))
        ≡ digest_of_input constants (input_of_two start (placed_digest constants c) (placed_digest constants d))
    pub size : length (placed_digest constants a) ≡ 4
    pub other_size : length (placed_digest constants c) ≡ 4
    pub good_a : Good constants comp a
    pub good_b : Good constants comp b
    pub good_c : Good constants comp c
    pub good_d : Good constants comp d

  -- blocks with one child each
  pub record AreOnes (p q : ℕ) (a c : PlacedTree) : Type 0 where
    pub start : Op
    pub one : comp p ≡ Some (input_of_one start (placed_digest constants a))
    pub other : comp q ≡ Some (input_of_one start (placed_digest constants c))
    pub digest : digest_of_input constants (input_of_one start (placed_digest constants a))
        ≡ digest_of_input constants (input_of_one start (placed_digest constants c))
    pub size : length (placed_digest constants a) ≡ 4
    pub other_size : length (placed_digest constants c) ≡ 4
    pub good_a : Good constants comp a
    pub good_c : Good constants comp c
