-- First targets of lists: where those of the one refine those of the other.
use Rattle.std.proofs.Common.{◌≡◌, ℕ, Bool, true, false, cond, nat_eq, List, [], ◌∷◌, ◌++◌, Option, Some, None, refl, sym, ap, subst, ◌∙◌}
use lib.Pointwise.{pointwise, bytes_decides}
use Rattle.block_tree.specs.Trees.{Tree, tree_digest, targets_from, first_target, Refines, RefinesFirst, none, some}
use Rattle.block_tree.proofs.Refinement.{refines-refl, refines-digest, first-refl, first-trans}
use Rattle.tree_merge.specs.Targets.{Covers}

abbrev or_else : Option Tree → Option Tree → Option Tree
or_else None p = p
or_else (Some t) p = Some t

cond-or : (b : Bool) (t : Tree) (o p q : Option Tree) → o ≡ or_else p q → cond b (Some t) o ≡ or_else (cond b (Some t) p) q
cond-or true t o p q e = refl
cond-or false t o p q e = e

module _ (constants : List ℕ) where
  abbrev pub first_in : List ℕ → List Tree → Option Tree
  first_in w ts = first_target constants w (targets_from ts)

  abbrev has_digest : List ℕ → Tree → Bool
  has_digest w t = pointwise nat_eq (tree_digest constants t) w

  first-append : (w : List ℕ) (ts us : List Tree) → first_in w (ts ++ us) ≡ or_else (first_in w ts) (first_in w us)
  first-append w [] us = refl
  first-append w (t ∷ ts) us = cond-or (has_digest w t) t _ _ _ (first-append w ts us)

  or-left : (o p : Option Tree) → RefinesFirst constants (or_else o p) o
  or-left None p = none
  or-left (Some t) p = some (refines-refl constants t)

  or-right : (o p q : Option Tree) → RefinesFirst constants o p → RefinesFirst constants o q → RefinesFirst constants o (or_else p q)
  or-right o None q f g = g
  or-right o (Some t) q f g = f

  pub covers-refl : (ts : List Tree) → Covers constants ts ts
  covers-refl ts w = first-refl constants w (targets_from ts)

  pub covers-trans : (ts us vs : List Tree) → Covers constants ts us → Covers constants us vs → Covers constants ts vs
  covers-trans ts us vs f g w = first-trans constants (f w) (g w)

  pub covers-none : (ts : List Tree) → Covers constants ts []
  covers-none ts w = none

  -- what is added at the end hides nothing
  pub covers-push : (ts us : List Tree) → Covers constants (ts ++ us) ts
  covers-push ts us w =
      subst (λ o. RefinesFirst constants o (first_in w ts)) (sym (first-append w ts us)) (or-left (first_in w ts) (first_in w us))

  -- one more is refined where the first of its digest refines it
  pub covers-more : (ms ts : List Tree) (t : Tree) → Covers constants ms ts → RefinesFirst constants (first_in (tree_digest constants t) ms) (Some t)
      → Covers constants ms (ts ++ t ∷ [])
  covers-more ms ts t f h w =
      subst (RefinesFirst constants (first_in w ms)) (sym (first-append w ts (t ∷ [])))
      (or-right (first_in w ms) (first_in w ts) _ (f w) (one (has_digest w t) refl))
    where
      one : (b : Bool) → has_digest w t ≡ b → RefinesFirst constants (first_in w ms) (cond b (Some t) None)
      one true e = subst (λ w. RefinesFirst constants (first_in w ms) (Some t)) ((bytes_decides (tree_digest constants t) w).0 e) h
      one false e = none

  cover-cond : (b : Bool) (x t : Tree) (o p : Option Tree) → Refines constants x t → RefinesFirst constants o p
      → RefinesFirst constants (cond b (Some x) o) (cond b (Some t) p)
  cover-cond true x t o p r f = some r
  cover-cond false x t o p r f = f

  -- a tree may be refined in its place
  pub covers-at : (before : List Tree) (x t : Tree) (behind : List Tree) → Refines constants x t
      → Covers constants (before ++ x ∷ behind) (before ++ t ∷ behind)
  covers-at [] x t behind r w =
      subst (λ d. RefinesFirst constants (cond (pointwise nat_eq d w) (Some x) (first_in w behind)) (cond (has_digest w t) (Some t) (first_in w behind)))
      (sym (refines-digest constants r)) (cover-cond (has_digest w t) x t _ _ r (covers-refl behind w))
  covers-at (y ∷ ys) x t behind r w = cover-cond (has_digest w y) y y _ _ (refines-refl constants y) (covers-at ys x t behind r w)

  -- the first of its digest is found
  pub first-here : (before : List Tree) (x : Tree) (behind : List Tree) (w : List ℕ) → tree_digest constants x ≡ w → first_in w before ≡ None
      → first_in w (before ++ x ∷ behind) ≡ Some x
  first-here before x behind w e absent =
      first-append w before (x ∷ behind) ∙ ap (λ o. or_else o (first_in w (x ∷ behind))) absent
      ∙ ap (λ b. cond b (Some x) (first_in w behind)) ((bytes_decides (tree_digest constants x) w).1 e)
