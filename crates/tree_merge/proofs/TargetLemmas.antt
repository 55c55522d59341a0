-- Merging the targets of two dynamic blocks of one digest.
use Rattle.std.proofs.Common.{◌≡◌, ℕ, suc, ◌+◌, ◌≤◌, Bool, true, false, cond, nat_eq, List, [], ◌∷◌, ◌++◌, take, drop, get_or, set, Option, Some, None, All, refl, sym, ap, subst, ◌∙◌, arith}
use lib.Pointwise.{pointwise, bytes_decides}
use Rattle.std.proofs.lemmas.List.{append-nil, map-append, take-append-drop, set_split, drop_more}
use Rattle.std.proofs.lemmas.List.Elements.{All-nil, All-cons, All-head, All-tail, All-append, All-same, All-take, All-drop}
use Rattle.std.proofs.Math.Path.{subst₂}
use Rattle.vm_field.specs.Sponge.{HashInput}
use Rattle.block_tree.specs.Trees as blocks
use Rattle.block_tree.specs.Trees.{Tree, tree_digest, tree_height, targets_height, targets_from, Refines, RefinesFirst, some, input_of_dyn}
use Rattle.block_tree.proofs.Refinement.{refines-refl, refines-digest}
use Rattle.tree_merge.specs.Placed.{PlacedTree, PlacedTargets, Dyn, plain, plain_targets, Entry, placed_from}
use Rattle.tree_merge.specs.Merging.{Good, AreGood, dyn, none, more, Mergeable, Merged}
use Rattle.tree_merge.specs.Targets.{digests_in, trees_in, Covers, HasNone, Distinct, IsFirstAt, IsGoodEntry, IsAdded, AreMerged}
use Rattle.tree_merge.proofs.ViewLemmas.{plain-targets}
use Rattle.tree_merge.proofs.Covers.{first_in, covers-refl, covers-trans, covers-none, covers-push, covers-more, covers-at, first-here}
use Rattle.tree_merge.proofs.OrderLemmas.{push-order, place-order, more-order, noted-from}
use Rattle.tree_merge.proofs.DistinctLemmas.{IsOther, with_tree, distinct-push, distinct-at, distinct-before, absent-none, none-absent}

abbrev bare : Entry → Tree
bare entry = plain entry.tree

absent-cond : (b : Bool) (t : Tree) (o : Option Tree) → (b ≡ true → ⊥) → o ≡ None → cond b (Some t) o ≡ None
absent-cond true t o h e = absurd (h refl)
absent-cond false t o h e = e

abbrev head_of : Entry → List Entry → Entry
head_of d [] = d
head_of d (e ∷ es) = e

-- ---- the first target of a digest
module _ (es : List Entry) (w : List ℕ) (i : ℕ) (p : IsFirstAt es w i) where
  pub at-place : (d : Entry) → get_or es i d ≡ p.entry
  at-place d = ap (head_of d) (sym (drop_more es i d p.inside) ∙ p.is)

  parts : take i es ++ p.entry ∷ drop (i + 1) es ≡ es
  parts = ap (λ ys. take i es ++ ys) (sym p.is) ∙ take-append-drop i es

  set-parts : (y : Entry) → take i es ++ y ∷ drop (i + 1) es ≡ set es i y
  set-parts y =
      let next : suc i ≡ i + 1 = omega arith in
      sym (set_split es i y p.inside ∙ ap (λ k. take i es ++ y ∷ drop k es) next)

-- ---- one of a list is no higher than the highest
pub height-inside : (before : List Entry) (e : Entry) (behind : List Entry)
    → tree_height (plain e.tree) ≤ targets_height (targets_from (trees_in (before ++ e ∷ behind)))
height-inside [] e behind = omega arith
height-inside (x ∷ xs) e behind = let more = height-inside xs e behind in omega (arith, more)

module _ (constants : List ℕ) (comp : ℕ → Option HashInput) where
  abbrev IsFine : Entry → Type 0
  IsFine = IsGoodEntry constants comp

  pub good-inside : (before : List Entry) (e : Entry) (behind : List Entry) → All IsFine (before ++ e ∷ behind) → IsFine e
  good-inside [] e behind g = All-head IsFine e behind g
  good-inside (x ∷ xs) e behind g = good-inside xs e behind (All-tail IsFine x _ g)

  -- no target has this digest, as its own digest stands beside each
  first-absent : (w : List ℕ) (es : List Entry) → All IsFine es → HasNone w es → first_in constants w (trees_in es) ≡ None
  first-absent w [] g h = refl
  first-absent w (e ∷ es) g h =
      absent-cond (pointwise nat_eq (tree_digest constants (plain e.tree)) w) (plain e.tree) _
      (λ is. All-head (IsOther w) e es h ((All-head IsFine e es g).noted ∙ (bytes_decides _ _).0 is))
      (first-absent w es (All-tail IsFine e es g) (All-tail (IsOther w) e es h))

  module _ (e : Entry) (good : IsFine e) where
    -- pushed, where none has its digest
    pub added-push : (es : List Entry) → All IsFine es → HasNone e.digest es → IsAdded constants comp es e (es ++ e ∷ [])
    added-push es g h = record {
      covers = subst (λ ts. Covers constants ts (trees_in es)) (sym (map-append bare es (e ∷ [])))
          (covers-push constants (trees_in es) (plain e.tree ∷ []));
      has = subst (λ o. RefinesFirst constants o (Some (plain e.tree)))
          (sym (ap (first_in constants e.digest) (map-append bare es (e ∷ []))
          ∙ first-here constants (trees_in es) (plain e.tree) [] e.digest (sym good.noted) (first-absent e.digest es g h)))
          (some (refines-refl constants (plain e.tree)));
      good = All-append IsFine es (e ∷ []) g (All-cons IsFine e [] good (All-nil IsFine));
      distinct = distinct-push es e h;
      order = push-order es e h;
    }

    module _ (f : Entry) (m : PlacedTree) (before behind : List Entry) (same : f.digest ≡ e.digest) (h : HasNone e.digest before)
        (gs : All IsFine before) (hs : All IsFine behind) (gf : IsFine f) (r : Merged constants comp f.tree e.tree m) where
      split : (x : Entry) → trees_in (before ++ x ∷ behind) ≡ trees_in before ++ plain x.tree ∷ trees_in behind
      split x = map-append bare before (x ∷ behind)

      noted-m : f.digest ≡ tree_digest constants (plain m)
      noted-m = gf.noted ∙ sym (refines-digest constants r.first)

      -- merged with the first of its digest
      added-at : IsAdded constants comp (before ++ f ∷ behind) e (before ++ with_tree f m ∷ behind)
      added-at = record {
        covers = subst (Covers constants (trees_in (before ++ with_tree f m ∷ behind))) (sym (split f))
            (subst (λ ts. Covers constants ts (trees_in before ++ plain f.tree ∷ trees_in behind)) (sym (split (with_tree f m)))
            (covers-at constants (trees_in before) (plain m) (plain f.tree) (trees_in behind) r.first));
        has = subst (λ o. RefinesFirst constants o (Some (plain e.tree)))
            (sym (ap (first_in constants e.digest) (split (with_tree f m))
            ∙ first-here constants (trees_in before) (plain m) (trees_in behind) e.digest (sym noted-m ∙ same) (first-absent e.digest before gs h)))
            (some r.second);
        good = All-append IsFine before (with_tree f m ∷ behind) gs
            (All-cons IsFine (with_tree f m) behind (record { noted = noted-m; good = r.good }) hs);
        distinct = distinct-at before f m behind;
        order = place-order before f m behind e.digest same;
      }

  good-place : (es : List Entry) (w : List ℕ) (i : ℕ) (p : IsFirstAt es w i) → All IsFine es → IsFine p.entry
  good-place es w i p g = All-head IsFine p.entry (drop (i + 1) es) (All-same IsFine _ _ (sym p.is) (All-drop IsFine i es g))

  module _ (es : List Entry) (e : Entry) (i : ℕ) (p : IsFirstAt es e.digest i) (g : All IsFine es) (good : IsFine e) where
    pub mergeable-place : Mergeable constants comp p.entry.tree e.tree
    mergeable-place =
        let here = good-place es e.digest i p g in
        record { first = here.good; second = good.good; digest = sym here.noted ∙ p.noted ∙ good.noted }

    -- the first of that digest is merged in its place
    pub added-set : (m : PlacedTree) → Merged constants comp p.entry.tree e.tree m → IsAdded constants comp es e (set es i (with_tree p.entry m))
    added-set m r =
        let added = added-at e good p.entry m (take i es) (drop (i + 1) es) p.noted p.before
        (All-take IsFine i es g) (All-drop IsFine (i + 1) es g) (good-place es e.digest i p g) r in
        subst₂ (λ old new. IsAdded constants comp old e new) (parts es e.digest i p) (set-parts es e.digest i p _) added

  -- none is merged in yet
  pub merged-none : (xs : List Entry) → All IsFine xs → AreMerged constants comp xs [] xs
  merged-none xs g = record {
    first = covers-refl constants (trees_in xs);
    second = covers-none constants (trees_in xs);
    good = g;
    distinct = λ d. d;
    order = λ d. sym (append-nil (digests_in xs));
  }

  -- and one more
  pub merged-more : (xs ys ms ms' : List Entry) (e : Entry) → IsFine e → AreMerged constants comp xs ys ms → IsAdded constants comp ms e ms'
      → AreMerged constants comp xs (ys ++ e ∷ []) ms'
  merged-more xs ys ms ms' e good a b = record {
    first = covers-trans constants (trees_in ms') (trees_in ms) (trees_in xs) b.covers a.first;
    second = subst (Covers constants (trees_in ms')) (sym (map-append bare ys (e ∷ [])))
        (covers-more constants (trees_in ms') (trees_in ys) (plain e.tree)
        (covers-trans constants (trees_in ms') (trees_in ms) (trees_in ys) b.covers a.second)
        (subst (λ w. RefinesFirst constants (first_in constants w (trees_in ms')) (Some (plain e.tree))) good.noted b.has));
    good = b.good;
    distinct = λ d. b.distinct (a.distinct d);
    order = λ d.
        let before = distinct-before ys e d in
        more-order xs ys ms ms' e before.1 (a.order before.0) b.order;
  }

  -- ---- what is known of the targets of good blocks
  from-good : (es : List Entry) → AreGood constants comp (placed_from es) → All IsFine es
  from-good [] none = All-nil IsFine
  from-good (e ∷ es) (more d g a gs) = All-cons IsFine e es (record { noted = d; good = g }) (from-good es gs)

  from-good-distinct : (es : List Entry) → AreGood constants comp (placed_from es) → Distinct es
  from-good-distinct [] none = tt
  from-good-distinct (e ∷ es) (more d g a gs) = (absent-none e.digest es a, from-good-distinct es gs)

  to-good : (es : List Entry) → All IsFine es → Distinct es → AreGood constants comp (placed_from es)
  to-good [] h d = none
  to-good (e ∷ es) h d =
      let first = All-head IsFine e es h in
      more first.noted first.good (none-absent e.digest es d.0) (to-good es (All-tail IsFine e es h) d.1)

  dyn-targets : {p : ℕ} {ts : PlacedTargets} → Good constants comp (Dyn p ts) → AreGood constants comp ts
  dyn-targets (dyn e g) = g

  dyn-at : {p : ℕ} {ts : PlacedTargets} → Good constants comp (Dyn p ts) → comp p ≡ Some input_of_dyn
  dyn-at (dyn e g) = e

  module _ (p q : ℕ) (xs ys : List Entry) (m : Mergeable constants comp (Dyn p (placed_from xs)) (Dyn q (placed_from ys))) where
    pub dyn-first : All IsFine xs
    dyn-first = from-good xs (dyn-targets m.first)

    pub dyn-second : All IsFine ys
    dyn-second = from-good ys (dyn-targets m.second)

    pub dyn-distinct : Distinct ys
    dyn-distinct = from-good-distinct ys (dyn-targets m.second)

    pub dyn-merged : (ms : List Entry) → AreMerged constants comp xs ys ms
        → Merged constants comp (Dyn p (placed_from xs)) (Dyn q (placed_from ys)) (Dyn p (placed_from ms))
    dyn-merged ms a = record {
      first = dyns ms xs a.first;
      second = dyns ms ys a.second;
      good = dyn (dyn-at m.first) (to-good ms a.good (a.distinct (from-good-distinct xs (dyn-targets m.first))));
      order = rw (noted-from ms, noted-from xs, noted-from ys) (a.order (from-good-distinct ys (dyn-targets m.second)));
    }
      where
        dyns : (es fs : List Entry) → Covers constants (trees_in es) (trees_in fs)
            → Refines constants (blocks.Dyn (plain_targets (placed_from es))) (blocks.Dyn (plain_targets (placed_from fs)))
        dyns es fs f = rw (plain-targets es, plain-targets fs) (blocks.dyn f)
