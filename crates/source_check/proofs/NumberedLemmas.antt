-- What is known of a tree whose blocks are numbered: it refines the tree itself, its addresses lie above the one before, and where
-- these blocks are hashed from that address on, each stands at the address of its hash.
use Rattle.std.proofs.Common.{◌≡◌, ℕ, suc, ◌+◌, ◌<◌, Bool, true, false, cond, nat_eq, List, [], ◌∷◌, ◌++◌, length, Option, Some, refl, sym, ap, ap₂, subst, ◌∙◌, arith, true≢false}
use lib.Pointwise.{pointwise}
use Rattle.vm_field.specs.Limits.{number_of_constants}
use Rattle.vm_field.specs.Sponge.{HashInput}
use Rattle.vm_ops.specs.declared.op.Op.TheVariants as op
use Rattle.block_tree.specs.Trees.{Tree, Targets, Opaque, Span, Join, Split, Loop, Call, Syscall, Dyn, no_target, target, IsWhole, AreWhole, Refines, RefinesFirst, none, some, opaque, span, join, split, loop, call, syscall, dyn, first_target, targets_from, tree_digest, input_of_one, input_of_two}
use Rattle.block_tree.proofs.Refinement.{refines-digest}
use Rattle.block_tree.proofs.WholeTrees.{whole-digest}
use Rattle.tree_merge.specs.Merging as good
use Rattle.tree_merge.specs.Merging.{Good, AreGood, is_among}
use Rattle.tree_merge.specs.Placed.{Entry, Absent, placed_digest, placed_from, plain}
use Rattle.tree_merge.specs.Sides.{AreAbove, InEach}
use Rattle.tree_merge.specs.Targets.{trees_in}
use Rattle.tree_merge.proofs.OrderLemmas.{among-last}
use Rattle.tree_merge.proofs.ViewLemmas.{plain-targets}
use Rattle.source_check.specs.Numbering.{blocks_in, numbered, numbered_in}
use Rattle.source_check.specs.SourceNodes.{inputs_of, inputs_in}
use Rattle.source_check.proofs.Among.{cond-of, among-more, among-kept, others-apart}

-- these are hashed from this address on, one behind the other
abbrev pub HashesFrom : (ℕ → Option HashInput) → ℕ → List (Option HashInput) → Type 0
HashesFrom comp at [] = Unit {0}
HashesFrom comp at (input ∷ inputs) = (comp at ≡ input) × HashesFrom comp (at + 1) inputs

hashes-front : (comp : ℕ → Option HashInput) (at : ℕ) (xs ys : List (Option HashInput)) → HashesFrom comp at (xs ++ ys) → HashesFrom comp at xs
hashes-front comp at [] ys h = tt
hashes-front comp at (x ∷ xs) ys h = (h.0, hashes-front comp (at + 1) xs ys h.1)

hashes-back : (comp : ℕ → Option HashInput) (at : ℕ) (xs ys : List (Option HashInput)) → HashesFrom comp at (xs ++ ys)
    → HashesFrom comp (at + length xs) ys
hashes-back comp at [] ys h = let e : at ≡ at + 0 = omega arith in subst (λ n. HashesFrom comp n ys) e h
hashes-back comp at (x ∷ xs) ys h =
    let e : at + 1 + length xs ≡ at + suc (length xs) = omega arith in
    subst (λ n. HashesFrom comp n ys) e (hashes-back comp (at + 1) xs ys h.1)

module _ (constants : List ℕ) where
  abbrev Firsts : List ℕ → List Entry → Option Tree
  Firsts w es = first_target constants w (targets_from (trees_in es))

  step-known : (b : Bool) (t : Tree) (o p : Option Tree) → b ≡ false → RefinesFirst constants o p → RefinesFirst constants o (cond b (Some t) p)
  step-known true t o p e r = absurd (true≢false e)
  step-known false t o p e r = r

  step-new : (b : Bool) (x t : Tree) (o p : Option Tree) → Refines constants x t → (b ≡ false → RefinesFirst constants o p)
      → RefinesFirst constants (cond b (Some x) o) (cond b (Some t) p)
  step-new true x t o p r f = some r
  step-new false x t o p r f = f refl

  -- a target that is kept is the first of its digest
  kept-first : (x t : Tree) (w : List ℕ) (o p : Option Tree) → Refines constants x t
      → (pointwise nat_eq (tree_digest constants t) w ≡ false → RefinesFirst constants o p)
      → RefinesFirst constants (cond (pointwise nat_eq (tree_digest constants x) w) (Some x) o)
      (cond (pointwise nat_eq (tree_digest constants t) w) (Some t) p)
  kept-first x t w o p r f =
      subst (λ v. RefinesFirst constants (cond (pointwise nat_eq v w) (Some x) o) (cond (pointwise nat_eq (tree_digest constants t) w) (Some t) p))
      (sym (refines-digest constants r)) (step-new (pointwise nat_eq (tree_digest constants t) w) x t o p r f)

  mutual
    pub numbered-refines : (at : ℕ) (t : Tree) → Refines constants (plain (numbered constants at t)) t
    numbered-refines at (Opaque digest) = opaque refl
    numbered-refines at (Span batches) = span
    numbered-refines at (Join a b) = join (numbered-refines (at + 1) a) (numbered-refines (at + 1 + blocks_in constants a) b)
    numbered-refines at (Split a b) = split (numbered-refines (at + 1) a) (numbered-refines (at + 1 + blocks_in constants a) b)
    numbered-refines at (Loop a) = loop (numbered-refines (at + 1) a)
    numbered-refines at (Call a) = call (numbered-refines (at + 1) a)
    numbered-refines at (Syscall a) = syscall (numbered-refines (at + 1) a)
    numbered-refines at (Dyn ts) = dyn (λ w.
        subst (λ us. RefinesFirst constants (first_target constants w us) (first_target constants w ts))
        (sym (plain-targets (numbered_in constants (at + 1) [] ts))) (first-refines (at + 1) [] ts w refl))

    first-refines : (at : ℕ) (known : List (List ℕ)) (ts : Targets) (w : List ℕ) → is_among w known ≡ false
        → RefinesFirst constants (Firsts w (numbered_in constants at known ts)) (first_target constants w ts)
    first-refines at known no_target w h = none
    first-refines at known (target t ts) w h =
        cond-of (λ es. RefinesFirst constants (Firsts w es) (first_target constants w (target t ts))) (is_among (tree_digest constants t) known) _ _
        (λ e. let other = others-apart (tree_digest constants t) w known e h in
        step-known (pointwise nat_eq (tree_digest constants t) w) t _ _ other
        (first-refines (at + blocks_in constants t) (known ++ tree_digest constants t ∷ []) ts w
        (among-more w known (tree_digest constants t) h other)))
        (λ e. kept-first (plain (numbered constants at t)) t w _ _ (numbered-refines at t) (λ other.
        first-refines (at + blocks_in constants t) (known ++ tree_digest constants t ∷ []) ts w
        (among-more w known (tree_digest constants t) h other)))

  pub numbered-digest : (at : ℕ) (t : Tree) → placed_digest constants (numbered constants at t) ≡ tree_digest constants t
  numbered-digest at t = refines-digest constants (numbered-refines at t)

  -- none of these has a digest that was known
  absent-known : (w : List ℕ) (at : ℕ) (known : List (List ℕ)) (ts : Targets) → is_among w known ≡ true
      → Absent w (placed_from (numbered_in constants at known ts))
  absent-known w at known no_target h = tt
  absent-known w at known (target t ts) h =
      let later =
      absent-known w (at + blocks_in constants t) (known ++ tree_digest constants t ∷ []) ts (among-kept w known (tree_digest constants t) h) in
      cond-of (λ es. Absent w (placed_from es)) (is_among (tree_digest constants t) known) _ _
      (λ e. later)
      (λ e. (λ same. true≢false (sym h ∙ ap (λ x. is_among x known) (sym same) ∙ e), later))

  module _ (comp : ℕ → Option HashInput) (count : length constants ≡ number_of_constants) where
    size : (at : ℕ) (t : Tree) → IsWhole t → length (placed_digest constants (numbered constants at t)) ≡ 4
    size at t whole = ap length (numbered-digest at t) ∙ (whole-digest constants t count whole).size

    two : (start : _) (at : ℕ) (a b : Tree) (p q : ℕ)
        → comp at ≡ Some (input_of_two start (tree_digest constants a) (tree_digest constants b))
        → comp at ≡ Some (input_of_two start (placed_digest constants (numbered constants p a)) (placed_digest constants (numbered constants q b)))
    two start at a b p q h = h ∙ ap₂ (λ x y. Some (input_of_two start x y)) (sym (numbered-digest p a)) (sym (numbered-digest q b))

    one : (start : _) (at : ℕ) (a : Tree) (p : ℕ) → comp at ≡ Some (input_of_one start (tree_digest constants a))
        → comp at ≡ Some (input_of_one start (placed_digest constants (numbered constants p a)))
    one start at a p h = h ∙ ap (λ x. Some (input_of_one start x)) (sym (numbered-digest p a))

    mutual
      pub numbered-good : (at : ℕ) (t : Tree) → IsWhole t → HashesFrom comp at (inputs_of constants t) → Good constants comp (numbered constants at t)
      numbered-good at (Opaque digest) whole h = good.opaque
      numbered-good at (Span batches) whole h = good.span h.0
      numbered-good at (Join a b) whole h =
          good.join (two op.Join at a b (at + 1) (at + 1 + blocks_in constants a) h.0) (size (at + 1) a whole.0)
          (numbered-good (at + 1) a whole.0 (hashes-front comp (at + 1) (inputs_of constants a) (inputs_of constants b) h.1))
          (numbered-good (at + 1 + blocks_in constants a) b whole.1
          (hashes-back comp (at + 1) (inputs_of constants a) (inputs_of constants b) h.1))
      numbered-good at (Split a b) whole h =
          good.split (two op.Split at a b (at + 1) (at + 1 + blocks_in constants a) h.0) (size (at + 1) a whole.0)
          (numbered-good (at + 1) a whole.0 (hashes-front comp (at + 1) (inputs_of constants a) (inputs_of constants b) h.1))
          (numbered-good (at + 1 + blocks_in constants a) b whole.1
          (hashes-back comp (at + 1) (inputs_of constants a) (inputs_of constants b) h.1))
      numbered-good at (Loop a) whole h = good.loop (one op.Loop at a (at + 1) h.0) (size (at + 1) a whole) (numbered-good (at + 1) a whole h.1)
      numbered-good at (Call a) whole h = good.call (one op.Call at a (at + 1) h.0) (size (at + 1) a whole) (numbered-good (at + 1) a whole h.1)
      numbered-good at (Syscall a) whole h =
          good.syscall (one op.Syscall at a (at + 1) h.0) (size (at + 1) a whole) (numbered-good (at + 1) a whole h.1)
      numbered-good at (Dyn ts) whole h = good.dyn h.0 (targets-good (at + 1) [] ts whole h.1)

      targets-good : (at : ℕ) (known : List (List ℕ)) (ts : Targets) → AreWhole ts → HashesFrom comp at (inputs_in constants ts)
          → AreGood constants comp (placed_from (numbered_in constants at known ts))
      targets-good at known no_target whole h = good.none
      targets-good at known (target t ts) whole h =
          cond-of (λ es. AreGood constants comp (placed_from es)) (is_among (tree_digest constants t) known) _ _
          (λ e. targets-good (at + blocks_in constants t) (known ++ tree_digest constants t ∷ []) ts whole.1
          (hashes-back comp at (inputs_of constants t) (inputs_in constants ts) h))
          (λ e. good.more (sym (numbered-digest at t))
          (numbered-good at t whole.0 (hashes-front comp at (inputs_of constants t) (inputs_in constants ts) h))
          (absent-known (tree_digest constants t) (at + blocks_in constants t) (known ++ tree_digest constants t ∷ []) ts
          (among-last (tree_digest constants t) known (tree_digest constants t) refl))
          (targets-good (at + blocks_in constants t) (known ++ tree_digest constants t ∷ []) ts whole.1
          (hashes-back comp at (inputs_of constants t) (inputs_in constants ts) h)))

  module _ (bound : ℕ) where
    later : (at n : ℕ) → bound < at → bound < at + n
    later at n h = omega (arith, h)

    mutual
      pub numbered-above : (at : ℕ) (t : Tree) → bound < at → AreAbove bound (numbered constants at t)
      numbered-above at (Opaque digest) h = tt
      numbered-above at (Span batches) h = h
      numbered-above at (Join a b) h =
          (h, numbered-above (at + 1) a (later at 1 h), numbered-above (at + 1 + blocks_in constants a) b (later (at + 1) _ (later at 1 h)))
      numbered-above at (Split a b) h =
          (h, numbered-above (at + 1) a (later at 1 h), numbered-above (at + 1 + blocks_in constants a) b (later (at + 1) _ (later at 1 h)))
      numbered-above at (Loop a) h = (h, numbered-above (at + 1) a (later at 1 h))
      numbered-above at (Call a) h = (h, numbered-above (at + 1) a (later at 1 h))
      numbered-above at (Syscall a) h = (h, numbered-above (at + 1) a (later at 1 h))
      numbered-above at (Dyn ts) h = (h, targets-above (at + 1) [] ts (later at 1 h))

      targets-above : (at : ℕ) (known : List (List ℕ)) (ts : Targets) → bound < at
          → InEach (λ place. bound < place) (placed_from (numbered_in constants at known ts))
      targets-above at known no_target h = tt
      targets-above at known (target t ts) h =
          cond-of (λ es. InEach (λ place. bound < place) (placed_from es)) (is_among (tree_digest constants t) known) _ _
          (λ e. targets-above (at + blocks_in constants t) (known ++ tree_digest constants t ∷ []) ts (later at _ h))
          (λ e. (
            numbered-above at t h,
            targets-above (at + blocks_in constants t) (known ++ tree_digest constants t ∷ []) ts (later at _ h),
          ))
