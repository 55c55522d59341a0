-- The digest and the hashes of a tree that is built along the rows.
use Rattle.sound_runs.proofs.Words.{◌≡◌, ℕ, ◌+◌, ◌<◌, true, false, ◌||◌, List, [], ◌∷◌, ◌++◌, length, Some, refl, sym, ap, ap₂, ◌∙◌, arith, lit<, code_of, Op}
use Rattle.sound_runs.proofs.Words.{h, refines-digest, is_op, computation_at, back, domain_of, eight, is_call_op, front, row_at, op_in, never, Closes, IsAt}
use Rattle.sound_runs.proofs.Words.{own, AreBatches, Built, Turns, TreeDigest, TreeFacts, TreeGood}
use Rattle.vm_field.specs.Machine.{zero_word}
use Rattle.vm_field.specs.Sponge.{HashInput, digest_of_input}
use Rattle.sound_runs.proofs.Words.ops
use Rattle.block_tree.specs.Trees.{input_of_batches, input_of_dyn, input_of_one, input_of_two}
use Rattle.tree_merge.specs.Placed.{PlacedTree, placed_digest}
use Rattle.tree_merge.specs.Merging.{Good, AreGood}
use Rattle.sound_runs.proofs.Batches.{same_batches}

word_zero : (word : ℕ → ℕ) → ((j : ℕ) → j < 4 → word j ≡ 0) → zero_word ≡ word 0 ∷ word 1 ∷ word 2 ∷ word 3 ∷ []
word_zero word zeros =
    λ i. sym (zeros 0 (lit< tt)) i ∷ sym (zeros 1 (lit< tt)) i ∷ sym (zeros 2 (lit< tt)) i ∷ sym (zeros 3 (lit< tt)) i ∷ []

module _ (constants : List ℕ) (hasher rows : List (List ℕ)) (root : List ℕ) (facts : TreeFacts constants hasher rows root) where
  abbrev has_tree : ℕ → ℕ → PlacedTree → Type 0
  has_tree j e x = Built constants (computation_at hasher) rows j e x

  abbrev has_turns : ℕ → ℕ → ℕ → PlacedTree → Type 0
  has_turns j a e x = Turns constants (computation_at hasher) rows j a e x

  -- what is hashed at the block's address, and its digest
  pub record IsHashedAs (j e : ℕ) (input : HashInput) : Type 0 where
    pub computation : computation_at hasher (own rows j) ≡ Some input
    pub digest : digest_of_input constants input ≡ front (row_at rows e)

  two_hashed : {j e : ℕ} (op : Op) {first second : List ℕ} → is_op op ops.Span ≡ false → domain_of op ≡ code_of op
      → IsAt rows j op → Closes rows j e → first ≡ front (row_at rows j) → second ≡ back (row_at rows j) → IsHashedAs j e (input_of_two op first second)
  two_hashed {j} {e} op {first} {second} differs domain here closes is_first is_second =
      let hashed = facts.spans.block j e closes (λ same. never (ap (λ o. is_op o ops.Span) (sym same ∙ here.is) ∙ differs)) in
      let input : ◌≡◌ {A = HashInput} (record { domain = domain_of (op_in rows j); blocks = eight (row_at rows j) ∷ [] }) (input_of_two op first second)
      = ap₂ (λ d block. record { domain = d; blocks = block ∷ [] }) (ap domain_of here.is ∙ domain)
      (sym (ap₂ (λ one other. one ++ other) is_first is_second)) in
      record { computation = hashed.computation ∙ ap Some input; digest = sym (hashed.digest ∙ ap (digest_of_input constants) input) }

  -- zeros stand behind the digest of an only child
  back_is : {j : ℕ} (op : Op) → is_op op ops.Loop || is_call_op op || is_op op ops.Dyn ≡ true → IsAt rows j op → zero_word ≡ back (row_at rows j)
  back_is {j} op single here =
      word_zero (λ n. h (row_at rows j) (4 + n)) ((facts.shows.row_is j (omega (arith, here.within))).row.block.single
      (ap (λ o. is_op o ops.Loop || is_call_op o || is_op o ops.Dyn) here.is ∙ single))

  one_hashed : {j e : ℕ} (op : Op) {child : List ℕ} → is_op op ops.Span ≡ false → domain_of op ≡ code_of op
      → is_op op ops.Loop || is_call_op op || is_op op ops.Dyn ≡ true → IsAt rows j op → Closes rows j e → child ≡ front (row_at rows j)
      → IsHashedAs j e (input_of_one op child)
  one_hashed op differs domain single here closes is_child = two_hashed op differs domain here closes is_child (back_is op single here)

  -- a dynamic block is hashed from zeros
  dyn_hashed : {j e : ℕ} → IsAt rows j ops.Dyn → Closes rows j e → IsHashedAs j e input_of_dyn
  dyn_hashed {j} here closes =
      two_hashed ops.Dyn refl refl here closes (word_zero (h (row_at rows j))
      ((facts.shows.row_is j (omega (arith, here.within))).dyn (ap (λ o. is_op o ops.Dyn) here.is))) (back_is ops.Dyn refl here)

  span_hashed : {j e : ℕ} {batches : List (List ℕ)} → IsAt rows j ops.Span → AreBatches rows j e batches
      → IsHashedAs j e (input_of_batches batches)
  span_hashed {j} here are =
      let span = facts.spans.span j here in
      let same = same_batches span.2 are in
      record {
        computation = span.4.computation ∙ ap (λ bs. Some (input_of_batches bs)) same.batches;
        digest = sym (ap (λ (m : ℕ). front (row_at rows m)) (sym same.end)
            ∙ span.4.digest ∙ ap (λ bs. digest_of_input constants (input_of_batches bs)) same.batches);
      }

  mutual
    pub built_digest : {j e : ℕ} {x : PlacedTree} → has_tree j e x → placed_digest constants x ≡ front (row_at rows e)
    built_digest (Built.span here closes are) = (span_hashed here are).digest
    built_digest (Built.join here closes one other is_one is_other) =
        (two_hashed ops.Join refl refl here closes (built_digest one ∙ is_one) (built_digest other ∙ is_other)).digest
    built_digest (Built.split_one here top closes child is) = (two_hashed ops.Split refl refl here closes (built_digest child ∙ is) refl).digest
    built_digest (Built.split_zero here top closes child is) = (two_hashed ops.Split refl refl here closes refl (built_digest child ∙ is)).digest
    built_digest (Built.loop_skipped here top closes) = (one_hashed ops.Loop refl refl refl here closes refl).digest
    built_digest (Built.loop_entered here top closes good turns) = (one_hashed ops.Loop refl refl refl here closes (turns_digest turns)).digest
    built_digest (Built.call here closes child is) = (one_hashed ops.Call refl refl refl here closes (built_digest child ∙ is)).digest
    built_digest (Built.syscall here closes child is) = (one_hashed ops.Syscall refl refl refl here closes (built_digest child ∙ is)).digest
    built_digest (Built.dyn here closes child is) = (dyn_hashed here closes).digest

    pub turns_digest : {j a e : ℕ} {x : PlacedTree} → has_turns j a e x → placed_digest constants x ≡ front (row_at rows j)
    turns_digest (Turns.last turn refines is closes) = refines-digest constants refines ∙ built_digest turn ∙ is
    turns_digest (Turns.more turn refines is again rest) = refines-digest constants refines ∙ built_digest turn ∙ is

  -- ---- its addresses

  pub built_good : {j e : ℕ} {x : PlacedTree} → has_tree j e x → Good constants (computation_at hasher) x
  built_good (Built.span here closes are) = Good.span (span_hashed here are).computation
  built_good (Built.join here closes one other is_one is_other) =
      Good.join (two_hashed ops.Join refl refl here closes (built_digest one ∙ is_one) (built_digest other ∙ is_other)).computation
      (ap length (built_digest one)) (built_good one) (built_good other)
  built_good (Built.split_one here top closes child is) =
      Good.split (two_hashed ops.Split refl refl here closes (built_digest child ∙ is) refl).computation
      (ap length (built_digest child)) (built_good child) Good.opaque
  built_good (Built.split_zero here top closes child is) =
      Good.split (two_hashed ops.Split refl refl here closes refl (built_digest child ∙ is)).computation refl Good.opaque (built_good child)
  built_good (Built.loop_skipped here top closes) =
      Good.loop (one_hashed ops.Loop refl refl refl here closes refl).computation refl Good.opaque
  built_good (Built.loop_entered here top closes good turns) =
      Good.loop (one_hashed ops.Loop refl refl refl here closes (turns_digest turns)).computation (ap length (turns_digest turns)) good
  built_good (Built.call here closes child is) =
      Good.call (one_hashed ops.Call refl refl refl here closes (built_digest child ∙ is)).computation (ap length (built_digest child)) (built_good child)
  built_good (Built.syscall here closes child is) =
      Good.syscall (one_hashed ops.Syscall refl refl refl here closes (built_digest child ∙ is)).computation
      (ap length (built_digest child)) (built_good child)
  built_good (Built.dyn here closes child is) =
      Good.dyn (dyn_hashed here closes).computation (AreGood.more (sym (built_digest child ∙ is)) (built_good child) tt AreGood.none)

pub tree_digest_is : TreeDigest
tree_digest_is constants hasher rows root facts j e x tree = built_digest constants hasher rows root facts tree

pub tree_good_is : TreeGood
tree_good_is constants hasher rows root facts j e x tree = built_good constants hasher rows root facts tree
