-- Children of two blocks of one digest.
use Rattle.std.proofs.Common.{◌≡◌, ℕ, List, ◌++◌, length, take, Option, sym, ap, ap₂, ◌∙◌}
use Rattle.std.proofs.Math.Seq.{take-append_seam}
use Rattle.std.proofs.lemmas.List.{append_cancel_left}
use Rattle.vm_field.specs.Sponge.{HashInput}
use Rattle.tree_merge.specs.Placed.{PlacedTree, placed_digest}
use Rattle.tree_merge.specs.Merging.{Mergeable}
use Rattle.tree_merge.specs.Children.{AreTwos}
use Rattle.tree_merge.specs.FirstBlocks.{first_block_of}

pub first-half : (a b c d : List ℕ) → length a ≡ length c → a ++ b ≡ c ++ d → a ≡ c
first-half a b c d l e = sym (take-append_seam a b) ∙ ap₂ take l e ∙ take-append_seam c d

pub second-half : (a b c d : List ℕ) → length a ≡ length c → a ++ b ≡ c ++ d → b ≡ d
second-half a b c d l e = append_cancel_left a b d (e ∙ ap (λ x. x ++ d) (sym (first-half a b c d l e)))

module _ (constants : List ℕ) (comp : ℕ → Option HashInput) (p q : ℕ) where
  abbrev pub Agree : Type 0
  Agree = first_block_of (comp p) ≡ first_block_of (comp q)

  module _ (a b c d : PlacedTree) where
    twos-same : AreTwos constants comp p q a b c d → Agree
        → placed_digest constants a ++ placed_digest constants b ≡ placed_digest constants c ++ placed_digest constants d
    twos-same t e = sym (ap first_block_of t.one) ∙ e ∙ ap first_block_of t.other

    pub twos-second : AreTwos constants comp p q a b c d → Agree → Mergeable constants comp b d
    twos-second t e = record {
      first = t.good_b;
      second = t.good_d;
      digest = second-half (placed_digest constants a) (placed_digest constants b) (placed_digest constants c) (placed_digest constants d)
          (t.size ∙ sym t.other_size) (twos-same t e);
    }
