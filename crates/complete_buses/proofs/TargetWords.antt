-- The first target of a digest has that digest.
use Rattle.complete_rows.proofs.Words.{◌≡◌, ℕ, nat_eq, Bool, true, false, cond, List, Option, Some, None, refl, sym, ap, subst, Tree, tree_digest}
use Rattle.std.specs.Cmp.Lexicographic.{same_text}
use lib.Pointwise.{pointwise}
use Rattle.block_tree.specs.Trees.{Targets, no_target, target, first_target}
use Rattle.block_tree.proofs.TargetLemmas.{none-found}

abbrev tree_or : Tree → Option Tree → Tree
tree_or d (Some tree) = tree
tree_or d None = d

pub first_digest : (constants : List ℕ) (ts : Targets) (digest : List ℕ) (t : Tree) → first_target constants digest ts ≡ Some t
    → tree_digest constants t ≡ digest
first_digest constants no_target digest t e = absurd (none-found t e)
first_digest constants (target x ts) digest t e =
    go (pointwise nat_eq (tree_digest constants x) digest) refl (first_digest constants ts digest t) e
  where
    go : (b : Bool) → pointwise nat_eq (tree_digest constants x) digest ≡ b
        → (first_target constants digest ts ≡ Some t → tree_digest constants t ≡ digest)
        → cond b (Some x) (first_target constants digest ts) ≡ Some t → tree_digest constants t ≡ digest
    go true same later f = subst (λ u. tree_digest constants u ≡ digest) (ap (tree_or x) f) (same_text (tree_digest constants x) digest (sym same))
    go false apart later f = later f
