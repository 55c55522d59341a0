-- What is hashed in the table, and that the trees are merged.
use Rattle.std.proofs.Common.{◌≡◌, ◌≢◌, ℕ, List, [], ◌∷◌, length, get_or, Some, refl, sym, ap, subst, ◌∙◌, arith}
use Rattle.std.proofs.Math.Path.{subst₂}
use Rattle.vm_field.specs.Machine.{zero_word}
use Rattle.vm_field.specs.Sponge.{digest_of_input}
use Rattle.vm_ops.specs.declared.op.Op.TheVariants as op
use Rattle.block_tree.specs.Trees.{input_of_batches, input_of_dyn, input_of_one, input_of_two}
use Rattle.air_kit.specs.Hashes.{blocks_from, computation_at}
use Rattle.tree_merge.specs.Placed.{PlacedTree, placed_digest}
use Rattle.tree_merge.specs.Merging.{Good, Mergeable, opaque, span, split, loop, dyn, none, more}
use Rattle.test_merge.specs.Hashes.{AreZeros, hasher_rows, zeros}
use Rattle.test_merge.specs.Trees.{one_batch, two_batches, first_ran, second_ran, not_entered, entered, ones, one_in_front, none_taken, second_taken, taken_with}

at_9 : computation_at hasher_rows 9 ≡ Some (input_of_batches (zeros ∷ []))
unfolding blocks_from
at_9 = refl

at_17 : computation_at hasher_rows 17 ≡ Some (input_of_batches (zeros ∷ zeros ∷ []))
unfolding blocks_from
at_17 = refl

at_33 : computation_at hasher_rows 33 ≡ Some (input_of_two op.Split zero_word zero_word)
unfolding blocks_from
at_33 = refl

at_41 : computation_at hasher_rows 41 ≡ Some (input_of_one op.Loop zero_word)
unfolding blocks_from
at_41 = refl

at_49 : computation_at hasher_rows 49 ≡ Some input_of_dyn
unfolding blocks_from
at_49 = refl

-- words with other first elements differ
other_first : (v w : List ℕ) → (get_or v 0 0 ≡ get_or w 0 0 → ⊥) → v ≢ w
other_first v w differ e = differ (ap (λ word. get_or word 0 0) e)

-- trees that are those, by the rows that are those
pub mergeable-by : (constants : List ℕ) (rows : List (List ℕ)) (x y u v : PlacedTree) → rows ≡ hasher_rows → x ≡ u → y ≡ v
    → Mergeable constants (computation_at hasher_rows) u v → Mergeable constants (computation_at rows) x y
mergeable-by constants rows x y u v r e f m =
    subst (λ rs. Mergeable constants (computation_at rs) x y) (sym r)
    (subst₂ (λ a b. Mergeable constants (computation_at hasher_rows) a b) (sym e) (sym f) m)

module _ (constants : List ℕ) (z : AreZeros constants) where
  good-one : Good constants (computation_at hasher_rows) one_batch
  good-one = span at_9

  good-two : Good constants (computation_at hasher_rows) two_batches
  good-two = span at_17

  pub spans-mergeable : Mergeable constants (computation_at hasher_rows) one_batch two_batches
  spans-mergeable = record { first = good-one; second = good-two; digest = z.one ∙ sym z.two }

  first-good : Good constants (computation_at hasher_rows) first_ran
  first-good = split (at_33 ∙ sym (λ i. Some (input_of_two op.Split (z.one i) zero_word))) (λ i. length (z.one i)) good-one opaque

  second-good : Good constants (computation_at hasher_rows) second_ran
  second-good = split (at_33 ∙ sym (λ i. Some (input_of_two op.Split zero_word (z.two i)))) refl opaque good-two

  pub splits-mergeable : Mergeable constants (computation_at hasher_rows) first_ran second_ran
  splits-mergeable = record {
    first = first-good;
    second = second-good;
    digest = λ i. digest_of_input constants (input_of_two op.Split (z.one i) (sym z.two i));
  }

  pub loops-mergeable : Mergeable constants (computation_at hasher_rows) not_entered entered
  loops-mergeable = record {
    first = loop at_41 refl opaque;
    second = loop (at_41 ∙ sym (λ i. Some (input_of_one op.Loop (z.one i)))) (λ i. length (z.one i)) good-one;
    digest = λ i. digest_of_input constants (input_of_one op.Loop (sym z.one i));
  }

  taken_good : (tree : PlacedTree) → zero_word ≡ placed_digest constants tree → Good constants (computation_at hasher_rows) tree
      → Good constants (computation_at hasher_rows) (taken_with tree)
  taken_good tree is good = dyn at_49 (more is good tt none)

  pub dynamics-mergeable : Mergeable constants (computation_at hasher_rows) none_taken second_taken
  dynamics-mergeable = record {
    first = dyn at_49 (more refl opaque (other_first ones zero_word (λ e. omega (arith, e)), tt) (more refl opaque tt none));
    second = dyn at_49
        (more refl opaque (other_first zero_word one_in_front (λ e. omega (arith, e)), tt) (more (sym z.one) good-one tt none));
    digest = refl;
  }

  pub taken-mergeable : Mergeable constants (computation_at hasher_rows) (taken_with one_batch) (taken_with two_batches)
  taken-mergeable = record {
    first = taken_good one_batch (sym z.one) good-one;
    second = taken_good two_batches (sym z.two) good-two;
    digest = refl;
  }
