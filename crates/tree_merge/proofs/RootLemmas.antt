-- Merging two trees of one digest where a root is opaque, where the roots' kinds differ, and where both are spans.
use Rattle.std.proofs.Common.{◌≡◌, ℕ, ◌+◌, List, Option, Some, refl, sym, ap, subst, ◌∙◌, arith}
use Rattle.vm_field.specs.Sponge.{HashInput, digest_of_input}
use Rattle.block_tree.specs.Trees as blocks
use Rattle.block_tree.specs.Trees.{Refines, input_of_batches}
use Rattle.block_tree.proofs.Refinement.{refines-refl}
use Rattle.tree_merge.specs.Placed.{PlacedTree, Opaque, Span, Join, Split, Loop, Call, Syscall, Dyn, placed_digest, plain, at_of, kind_of}
use Rattle.tree_merge.specs.Merging.{Good, Mergeable, Merged, opaque, span, join, split, loop, call, syscall, dyn}
use Rattle.tree_merge.specs.Pairs.{Differs}
use Rattle.tree_merge.proofs.OrderLemmas.{opaque-first_order, opaque-second_order}

module _ (constants : List ℕ) (comp : ℕ → Option HashInput) where
  -- ---- one of the two is opaque

  refines-opaque : (a b : PlacedTree) → kind_of a ≡ 0 → placed_digest constants a ≡ placed_digest constants b → Refines constants (plain b) (plain a)
  refines-opaque (Opaque digest) b k e = blocks.opaque (sym e)
  refines-opaque (Span at batches) b k e = absurd (omega (arith, k))
  refines-opaque (Join at x y) b k e = absurd (omega (arith, k))
  refines-opaque (Split at x y) b k e = absurd (omega (arith, k))
  refines-opaque (Loop at x) b k e = absurd (omega (arith, k))
  refines-opaque (Call at x) b k e = absurd (omega (arith, k))
  refines-opaque (Syscall at x) b k e = absurd (omega (arith, k))
  refines-opaque (Dyn at ts) b k e = absurd (omega (arith, k))

  pub opaque-first : (a b : PlacedTree) → Mergeable constants comp a b → kind_of a ≡ 0 → Merged constants comp a b b
  opaque-first a b m k = record {
    first = refines-opaque a b k m.digest;
    second = refines-refl constants (plain b);
    good = m.second;
    order = opaque-first_order a b k;
  }

  pub opaque-second : (a b : PlacedTree) → Mergeable constants comp a b → kind_of b ≡ 0 → Merged constants comp a b a
  opaque-second a b m k = record {
    first = refines-refl constants (plain a);
    second = refines-opaque b a k (sym m.digest);
    good = m.first;
    order = opaque-second_order a b k;
  }

  -- ---- two kinds

  -- a root that is not opaque has an input, by its kind
  record HasInput (x : PlacedTree) : Type 0 where
    input : HashInput
    at : comp (at_of x) ≡ Some input
    kind : 1 + input.domain ≡ kind_of x
    digest : placed_digest constants x ≡ digest_of_input constants input

  has-input : {x : PlacedTree} → Good constants comp x → (kind_of x ≡ 0 → ⊥) → HasInput x
  has-input opaque k = absurd (k refl)
  has-input (span e) k = record { input = _; at = e; kind = refl; digest = refl }
  has-input (join e l g h) k = record { input = _; at = e; kind = refl; digest = refl }
  has-input (split e l g h) k = record { input = _; at = e; kind = refl; digest = refl }
  has-input (loop e l g) k = record { input = _; at = e; kind = refl; digest = refl }
  has-input (call e l g) k = record { input = _; at = e; kind = refl; digest = refl }
  has-input (syscall e l g) k = record { input = _; at = e; kind = refl; digest = refl }
  has-input (dyn e g) k = record { input = _; at = e; kind = refl; digest = refl }

  pub unlike-differ : (a b : PlacedTree) → Mergeable constants comp a b → (kind_of a ≡ 0 → ⊥) → (kind_of b ≡ 0 → ⊥)
      → (kind_of a ≡ kind_of b → ⊥) → Differs constants comp (at_of a) (at_of b)
  unlike-differ a b m k l ne =
      let i = has-input m.first k in
      let j = has-input m.second l in
      record {
        one = i.input;
        other = j.input;
        one_is = i.at;
        other_is = j.at;
        differ = λ e. ne (sym i.kind ∙ ap (λ (input : HashInput). 1 + input.domain) e ∙ j.kind);
        digest = sym i.digest ∙ m.digest ∙ j.digest;
      }

  -- ---- two spans

  span-input : {at : ℕ} {batches : List (List ℕ)} → Good constants comp (Span at batches) → comp at ≡ Some (input_of_batches batches)
  span-input (span e) = e

  module _ (p q : ℕ) (xs ys : List (List ℕ)) where
    pub span-merged : Mergeable constants comp (Span p xs) (Span q ys) → xs ≡ ys → Merged constants comp (Span p xs) (Span q ys) (Span p xs)
    span-merged m e = record {
      first = blocks.span;
      second = subst (λ zs. Refines constants (blocks.Span xs) (blocks.Span zs)) e blocks.span;
      good = m.first;
      order = refl;
    }

    pub spans-differ : Mergeable constants comp (Span p xs) (Span q ys) → (xs ≡ ys → ⊥) → Differs constants comp p q
    spans-differ m ne = record {
      one = input_of_batches xs;
      other = input_of_batches ys;
      one_is = span-input m.first;
      other_is = span-input m.second;
      differ = λ e. ne (ap (λ (input : HashInput). input.blocks) e);
      digest = m.digest;
    }
