-- Merging two trees of one digest whose roots have children: what is known of the children, and the block of the merged ones.
use Rattle.std.proofs.Common.{◌≡◌, ℕ, List, length, Option, Some, refl, sym, ap, ◌∙◌}
use Rattle.vm_field.specs.Sponge.{HashInput}
use Rattle.vm_ops.specs.declared.op.Op.{Op}
use Rattle.vm_ops.specs.declared.op.Op.TheVariants as op
use Rattle.block_tree.specs.Trees as blocks
use Rattle.block_tree.specs.Trees.{Refines, input_of_one, input_of_two}
use Rattle.block_tree.proofs.Refinement.{refines-digest}
use Rattle.tree_merge.specs.Placed.{PlacedTree, Join, Split, Loop, Call, Syscall, placed_digest, plain}
use Rattle.tree_merge.specs.Merging.{Good, Mergeable, Merged, join, split, loop, call, syscall}
use Rattle.tree_merge.specs.Children.{AreTwos, AreOnes}

module _ (constants : List ℕ) (comp : ℕ → Option HashInput) where
  -- ---- the children of blocks of one kind

  joins : {p q : ℕ} {a b c d : PlacedTree} → Good constants comp (Join p a b) → Good constants comp (Join q c d)
      → placed_digest constants (Join p a b) ≡ placed_digest constants (Join q c d) → AreTwos constants comp p q a b c d
  joins (join e l g h) (join f m i j) d = record {
    start = op.Join;
    one = e;
    other = f;
    digest = d;
    size = l;
    other_size = m;
    good_a = g;
    good_b = h;
    good_c = i;
    good_d = j;
  }

  splits : {p q : ℕ} {a b c d : PlacedTree} → Good constants comp (Split p a b) → Good constants comp (Split q c d)
      → placed_digest constants (Split p a b) ≡ placed_digest constants (Split q c d) → AreTwos constants comp p q a b c d
  splits (split e l g h) (split f m i j) d = record {
    start = op.Split;
    one = e;
    other = f;
    digest = d;
    size = l;
    other_size = m;
    good_a = g;
    good_b = h;
    good_c = i;
    good_d = j;
  }

  loops : {p q : ℕ} {a c : PlacedTree} → Good constants comp (Loop p a) → Good constants comp (Loop q c)
      → placed_digest constants (Loop p a) ≡ placed_digest constants (Loop q c) → AreOnes constants comp p q a c
  loops (loop e l g) (loop f m i) d = record {
    start = op.Loop;
    one = e;
    other = f;
    digest = d;
    size = l;
    other_size = m;
    good_a = g;
    good_c = i;
  }

  calls : {p q : ℕ} {a c : PlacedTree} → Good constants comp (Call p a) → Good constants comp (Call q c)
      → placed_digest constants (Call p a) ≡ placed_digest constants (Call q c) → AreOnes constants comp p q a c
  calls (call e l g) (call f m i) d = record {
    start = op.Call;
    one = e;
    other = f;
    digest = d;
    size = l;
    other_size = m;
    good_a = g;
    good_c = i;
  }

  syscalls : {p q : ℕ} {a c : PlacedTree} → Good constants comp (Syscall p a) → Good constants comp (Syscall q c)
      → placed_digest constants (Syscall p a) ≡ placed_digest constants (Syscall q c) → AreOnes constants comp p q a c
  syscalls (syscall e l g) (syscall f m i) d = record {
    start = op.Syscall;
    one = e;
    other = f;
    digest = d;
    size = l;
    other_size = m;
    good_a = g;
    good_c = i;
  }

  module _ (p q : ℕ) (a b c d : PlacedTree) where
    pub join-twos : Mergeable constants comp (Join p a b) (Join q c d) → AreTwos constants comp p q a b c d
    join-twos m = joins m.first m.second m.digest

    pub split-twos : Mergeable constants comp (Split p a b) (Split q c d) → AreTwos constants comp p q a b c d
    split-twos m = splits m.first m.second m.digest

  module _ (p q : ℕ) (a c : PlacedTree) where
    pub loop-ones : Mergeable constants comp (Loop p a) (Loop q c) → AreOnes constants comp p q a c
    loop-ones m = loops m.first m.second m.digest

    pub call-ones : Mergeable constants comp (Call p a) (Call q c) → AreOnes constants comp p q a c
    call-ones m = calls m.first m.second m.digest

    pub syscall-ones : Mergeable constants comp (Syscall p a) (Syscall q c) → AreOnes constants comp p q a c
    syscall-ones m = syscalls m.first m.second m.digest

  -- ---- blocks of merged children

  module _ (p : ℕ) (a b x y : PlacedTree) (start : Op)
      (first : Refines constants (plain x) (plain a)) (second : Refines constants (plain y) (plain b)) where
    same-two : comp p ≡ Some (input_of_two start (placed_digest constants a) (placed_digest constants b))
        → comp p ≡ Some (input_of_two start (placed_digest constants x) (placed_digest constants y))
    same-two e = e ∙ sym (λ i. Some (input_of_two start (refines-digest constants first i) (refines-digest constants second i)))

  module _ (p : ℕ) (a x : PlacedTree) (start : Op) (first : Refines constants (plain x) (plain a)) where
    same-one : comp p ≡ Some (input_of_one start (placed_digest constants a)) → comp p ≡ Some (input_of_one start (placed_digest constants x))
    same-one e = e ∙ sym (λ i. Some (input_of_one start (refines-digest constants first i)))

    same-size : length (placed_digest constants a) ≡ 4 → length (placed_digest constants x) ≡ 4
    same-size l = ap length (refines-digest constants first) ∙ l

  good-join : {p : ℕ} {a b x y : PlacedTree} → Good constants comp (Join p a b) → Refines constants (plain x) (plain a)
      → Refines constants (plain y) (plain b) → Good constants comp x → Good constants comp y → Good constants comp (Join p x y)
  good-join (join e l g h) r s u v = join (same-two _ _ _ _ _ op.Join r s e) (same-size 0 _ _ op.Join r l) u v

  good-split : {p : ℕ} {a b x y : PlacedTree} → Good constants comp (Split p a b) → Refines constants (plain x) (plain a)
      → Refines constants (plain y) (plain b) → Good constants comp x → Good constants comp y → Good constants comp (Split p x y)
  good-split (split e l g h) r s u v = split (same-two _ _ _ _ _ op.Split r s e) (same-size 0 _ _ op.Split r l) u v

  good-loop : {p : ℕ} {a x : PlacedTree} → Good constants comp (Loop p a) → Refines constants (plain x) (plain a)
      → Good constants comp x → Good constants comp (Loop p x)
  good-loop (loop e l g) r u = loop (same-one _ _ _ op.Loop r e) (same-size 0 _ _ op.Loop r l) u

  good-call : {p : ℕ} {a x : PlacedTree} → Good constants comp (Call p a) → Refines constants (plain x) (plain a)
      → Good constants comp x → Good constants comp (Call p x)
  good-call (call e l g) r u = call (same-one _ _ _ op.Call r e) (same-size 0 _ _ op.Call r l) u

  good-syscall : {p : ℕ} {a x : PlacedTree} → Good constants comp (Syscall p a) → Refines constants (plain x) (plain a)
      → Good constants comp x → Good constants comp (Syscall p x)
  good-syscall (syscall e l g) r u = syscall (same-one _ _ _ op.Syscall r e) (same-size 0 _ _ op.Syscall r l) u

  module _ (p q : ℕ) (a b c d x y : PlacedTree) where
    pub join-merged : Mergeable constants comp (Join p a b) (Join q c d) → Merged constants comp a c x → Merged constants comp b d y
        → Merged constants comp (Join p a b) (Join q c d) (Join p x y)
    join-merged m u v = record {
      first = blocks.join u.first v.first;
      second = blocks.join u.second v.second;
      good = good-join m.first u.first v.first u.good v.good;
      order = refl;
    }

    pub split-merged : Mergeable constants comp (Split p a b) (Split q c d) → Merged constants comp a c x → Merged constants comp b d y
        → Merged constants comp (Split p a b) (Split q c d) (Split p x y)
    split-merged m u v = record {
      first = blocks.split u.first v.first;
      second = blocks.split u.second v.second;
      good = good-split m.first u.first v.first u.good v.good;
      order = refl;
    }

  module _ (p q : ℕ) (a c x : PlacedTree) where
    pub loop-merged : Mergeable constants comp (Loop p a) (Loop q c) → Merged constants comp a c x
        → Merged constants comp (Loop p a) (Loop q c) (Loop p x)
    loop-merged m u = record { first = blocks.loop u.first; second = blocks.loop u.second; good = good-loop m.first u.first u.good; order = refl }

    pub call-merged : Mergeable constants comp (Call p a) (Call q c) → Merged constants comp a c x
        → Merged constants comp (Call p a) (Call q c) (Call p x)
    call-merged m u = record { first = blocks.call u.first; second = blocks.call u.second; good = good-call m.first u.first u.good; order = refl }

    pub syscall-merged : Mergeable constants comp (Syscall p a) (Syscall q c) → Merged constants comp a c x
        → Merged constants comp (Syscall p a) (Syscall q c) (Syscall p x)
    syscall-merged m u = record { first = blocks.syscall u.first; second = blocks.syscall u.second; good = good-syscall m.first u.first u.good; order = refl }
