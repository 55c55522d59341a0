-- The tree of a run beside that of its source.
use Rattle.std.proofs.Common.{◌≡◌, ℕ, ◌+◌, ◌-◌, ◌<◌, ◌≤◌, List, length, Bool, true, false, not, nat_eq, Option, Result, Ok, Err, IfOk, refl, sym, subst, ◌∙◌, arith, true≢false}
use lib.Pointwise.{pointwise, bytes_decides}
use Rattle.vm_field.specs.Sponge.{HashInput}
use Rattle.rpo_hash.specs.Constants.{constants_of}
use Rattle.rpo_hash.specs.declared.params.Params.{Params}
use Rattle.vm_field.specs.Limits.{number_of_constants}
use Rattle.vm_field.specs.declared.refusal.Memory.{Memory}
use Rattle.air_kit.specs.Hashes.{computation_at}
use Rattle.air_kit.specs.declared.trace.Trace.{Trace}
use Rattle.block_tree.specs.Trees.{Tree, IsWhole, Refines, tree_digest}
use Rattle.block_tree.specs.TreeView.{tree_of}
use Rattle.block_tree.specs.declared.tree.Tree as held
use Rattle.block_tree.proofs.Refinement.{refines-trans}
use Rattle.tree_merge.specs.Merges.{IsStopBy}
use Rattle.tree_merge.specs.Merging.{Good, Mergeable, Merged}
use Rattle.tree_merge.specs.Placed.{PlacedTree, placed_digest, plain}
use Rattle.tree_merge.specs.Sides.{AreAbove, AreUpTo, IsAcross}
use Rattle.tree_merge.specs.declared.addr_tree.MergeStop.{MergeStop}
use Rattle.tree_merge.specs.declared.addr_tree.MergeStop.TheVariants as stop
use Rattle.source_check.specs.Comparing.{IsClashOf, IsCompared, RefinesBoth}
use Rattle.source_check.specs.Numbering.{numbered}
use Rattle.source_check.specs.SourceNodes.{hashed_with, inputs_of}
use Rattle.source_check.specs.declared.comparing.Compared.{Compared}
use Rattle.source_check.specs.declared.comparing.Compared.TheVariants.{Clash}
use Rattle.source_check.proofs.HashedLemmas.{good-more, good-within, hashed-from, hashed-more}
use Rattle.source_check.proofs.NumberedLemmas.{numbered-above, numbered-digest, numbered-good, numbered-refines}
use Rattle.source_check.proofs.SourceLemmas.{node-clash}

module _ (constants : List ℕ) (t : Trace) (source : Tree) (x y : PlacedTree) (is : x ≡ numbered constants (length t.hasher + 1) source) where
  abbrev By : ℕ → Option HashInput
  By = hashed_with t.hasher (inputs_of constants source)

  pub fit-together : length constants ≡ number_of_constants → IsWhole source → Good constants (computation_at t.hasher) y
      → placed_digest constants y ≡ tree_digest constants source → Mergeable constants By x y
  fit-together count whole good same =
      subst (λ z. Mergeable constants By z y) (sym is) (record {
        first = numbered-good constants By count (length t.hasher + 1) source whole (hashed-from t.hasher (inputs_of constants source));
        second = good-more constants (computation_at t.hasher) By (hashed-more t.hasher (inputs_of constants source)) good;
        digest = numbered-digest constants (length t.hasher + 1) source ∙ sym same;
      })

  pub stand-apart : Good constants (computation_at t.hasher) y → AreAbove (length t.hasher) x × AreUpTo (length t.hasher) y
  stand-apart good = (
    subst (AreAbove (length t.hasher)) (sym is) (numbered-above constants (length t.hasher) (length t.hasher + 1) source (omega arith)),
    good-within constants t.hasher good,
  )

  pub refines-both : (m : PlacedTree) (tree : held.Tree) → Merged constants By x y m → tree_of tree ≡ plain m
      → RefinesBoth constants source (plain y) (tree_of tree)
  refines-both m tree merged same = subst (RefinesBoth constants source (plain y)) (sym same) (record {
    refines = refines-trans constants (subst (λ z. Refines constants (plain m) (plain z)) is merged.first)
        (numbered-refines constants (length t.hasher + 1) source);
    fits = merged.second;
  })

-- a pair is a clash of the table and a block
pub clash-compared : (params : Params) (t : Trace) (source run : Tree) (rows : ℕ) (why : MergeStop) (r : Result Compared Memory) → rows ≡ length t.hasher
    → IsStopBy params (hashed_with t.hasher (inputs_of (constants_of params) source)) why → IsAcross rows why
    → IfOk r (λ c. IsClashOf rows why c) → IfOk r (λ c. IsCompared (constants_of params) t source run c)
clash-compared params t source run rows why (Err e) is pair across h = tt
clash-compared params t source run rows (stop.Pair first second) (Ok c) is pair across h =
    subst (λ c. IsCompared (constants_of params) t source run c) (sym h)
    (subst (λ n. IsCompared (constants_of params) t source run (Clash first (second - n))) (sym is)
    (node-clash (constants_of params) t source first second pair (subst (λ n. first ≤ n) is across.0) (subst (λ n. n < second) is across.1)))
clash-compared params t source run rows stop.Memory (Ok c) is pair across h = absurd h

-- ---- whether two digests differ, by the test of their cells
test-false : (b : Bool) → not b ≡ false → b ≡ true
test-false true e = refl
test-false false e = sym e

test-true : (b : Bool) → not b ≡ true → b ≡ true → ⊥
test-true true e is = true≢false (sym e)
test-true false e is = true≢false (sym is)

pub same-words : (a b : List ℕ) (r : Bool) → r ≡ not (pointwise nat_eq a b) → r ≡ false → a ≡ b
same-words a b r is e = (bytes_decides a b).0 (test-false (pointwise nat_eq a b) (sym is ∙ e))

pub other-words : (a b : List ℕ) (r : Bool) → r ≡ not (pointwise nat_eq a b) → r ≡ true → b ≡ a → ⊥
other-words a b r is e same = test-true (pointwise nat_eq a b) (sym is ∙ e) ((bytes_decides a b).1 (sym same))
