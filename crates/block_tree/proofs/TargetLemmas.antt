-- The first target of a digest, and the run of a dynamic block by it.
use Rattle.std.proofs.Common.{◌≡◌, ℕ, ◌≤◌, max, nat_eq, Bool, true, false, cond, List, Option, Some, None, is_some, refl, ap, subst, arith}
use lib.Pointwise.{pointwise}
use Rattle.vm_field.specs.Machine.{State}
use Rattle.block_tree.specs.Trees.{Tree, Targets, Dyn, no_target, target, IsWhole, AreWhole, first_target, targets_height, tree_digest, tree_height}
use Rattle.block_tree.specs.Cycles.{StartDyn, End, called_word}
use Rattle.block_tree.specs.Execution.{Part, cycle, execution, run_first, seq, skip}

pub none-found : (tree : Tree) → None ≡ Some tree → ⊥
none-found tree e = cc

-- what holds of a target and of what is found behind it holds of what is found
pub on-first : (P : Tree → Type 0) (b : Bool) (t : Tree) (o : Option Tree) → P t → ((u : Tree) → o ≡ Some u → P u)
    → (u : Tree) → cond b (Some t) o ≡ Some u → P u
on-first P true t o p f u e = let same : t ≡ u = cc in subst P same p
on-first P false t o p f u e = f u e

pub first-whole : (constants : List ℕ) (ts : Targets) (digest : List ℕ) (t : Tree) → AreWhole ts → first_target constants digest ts ≡ Some t → IsWhole t
first-whole constants no_target digest t h e = absurd (none-found t e)
first-whole constants (target x ts) digest t h e =
    on-first IsWhole (pointwise nat_eq (tree_digest constants x) digest) x (first_target constants digest ts) h.0
    (λ u. first-whole constants ts digest u h.1) t e

pub first-lower : (constants : List ℕ) (ts : Targets) (digest : List ℕ) (t : Tree) → first_target constants digest ts ≡ Some t
    → tree_height t ≤ targets_height ts
first-lower constants no_target digest t e = absurd (none-found t e)
first-lower constants (target x ts) digest t e =
    on-first (λ u. tree_height u ≤ max (tree_height x) (targets_height ts)) (pointwise nat_eq (tree_digest constants x) digest) x
    (first_target constants digest ts) (omega arith) (λ u d. let low = first-lower constants ts digest u d in omega arith) t e

module _ (constants : List ℕ) (kernel : List (List ℕ)) (limit : ℕ) where
  -- a tree, if there is one
  abbrev pub run_option : Option Tree → Part
  run_option None = skip
  run_option (Some tree) = execution constants kernel limit tree

  run-cond : (b : Bool) (t : Tree) (o : Option Tree) (part : Part) → part ≡ run_option o
      → cond b (execution constants kernel limit t) part ≡ run_option (cond b (Some t) o)
  run-cond true t o part e = refl
  run-cond false t o part e = e

  pub run-first : (ts : Targets) (digest : List ℕ) → run_first constants kernel limit ts digest ≡ run_option (first_target constants digest ts)
  run-first no_target digest = refl
  run-first (target t ts) digest =
      run-cond (pointwise nat_eq (tree_digest constants t) digest) t (first_target constants digest ts) (run_first constants kernel limit ts digest)
      (run-first ts digest)

  -- a dynamic block whose target this is, if it has one
  abbrev pub dyn_run : Option Tree → Part
  dyn_run found =
      seq (cycle constants kernel limit (StartDyn (is_some found)))
      (seq (run_option found) (cycle constants kernel limit (End (tree_digest constants (Dyn no_target)))))

  pub execution-Dyn : (ts : Targets) (s : State)
      → execution constants kernel limit (Dyn ts) s ≡ dyn_run (first_target constants (called_word s.core) ts) s
  execution-Dyn ts s =
      ap (λ (part : Part). seq (cycle constants kernel limit (StartDyn (is_some (first_target constants (called_word s.core) ts))))
      (seq part (cycle constants kernel limit (End (tree_digest constants (Dyn ts))))) s)
      (run-first ts (called_word s.core))
