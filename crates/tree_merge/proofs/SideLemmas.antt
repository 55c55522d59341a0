-- On which side of an address the addresses of two trees stand, and so those of a pair.
use Rattle.std.proofs.Common.{◌≡◌, ℕ, ◌+◌, ◌<◌, ◌≤◌, false, List, [], ◌∷◌, ◌++◌, drop, set, All, Result, Ok, Err, IfErr, IsErrAnd, refl, sym, ap, subst, true≢false, ◌∙◌, arith}
use Rattle.std.proofs.lemmas.List.Elements.{All-nil, All-cons, All-head, All-tail, All-same, All-drop, All-push, All-set, All-weaker}
use Rattle.tree_merge.specs.Merging.{is_among}
use Rattle.tree_merge.specs.Placed.{PlacedTree, Opaque, Span, Join, Split, Loop, Call, Syscall, Dyn, Entry, placed_from, at_of, kind_of}
use Rattle.tree_merge.specs.Sides.{AtEach, InEach, AreAbove, AreUpTo, IsAboveUnless, IsAcross}
use Rattle.tree_merge.specs.Targets.{digests_in, Distinct, HasNone, IsFirstAt}
use Rattle.tree_merge.specs.declared.addr_tree.MergeStop.{MergeStop}
use Rattle.tree_merge.proofs.DistinctLemmas.{IsOther}
use Rattle.tree_merge.proofs.OrderLemmas.{among-none, among-last, among-front}

-- an error that is passed on is across the address
pub passed-on : {X : Type 0} (bound : ℕ) (r : Result X MergeStop) (stop : MergeStop) → IsErrAnd r (λ e. e ≡ stop) → IsAcross bound stop
    → IfErr r (λ e. IsAcross bound e)
passed-on bound (Ok x) stop is across = tt
passed-on bound (Err e) stop is across = subst (IsAcross bound) (sym is) across

-- ---- roots
pub above-root : (bound : ℕ) (x : PlacedTree) → AreAbove bound x → (kind_of x ≡ 0 → ⊥) → bound < at_of x
above-root bound (Opaque digest) h k = absurd (k refl)
above-root bound (Span at batches) h k = h
above-root bound (Join at x y) h k = h.0
above-root bound (Split at x y) h k = h.0
above-root bound (Loop at x) h k = h.0
above-root bound (Call at x) h k = h.0
above-root bound (Syscall at x) h k = h.0
above-root bound (Dyn at ts) h k = h.0

pub up_to-root : (bound : ℕ) (x : PlacedTree) → AreUpTo bound x → at_of x ≤ bound
up_to-root bound (Opaque digest) h = omega arith
up_to-root bound (Span at batches) h = h
up_to-root bound (Join at x y) h = h.0
up_to-root bound (Split at x y) h = h.0
up_to-root bound (Loop at x) h = h.0
up_to-root bound (Call at x) h = h.0
up_to-root bound (Syscall at x) h = h.0
up_to-root bound (Dyn at ts) h = h.0

-- ---- blocks of one kind
-- two blocks, and their children in pairs
pub record TwosApart (bound p q : ℕ) (a b c d : PlacedTree) : Type 0 where
  pub above : bound < p
  pub up_to : q ≤ bound
  pub first : AreAbove bound a × AreUpTo bound c
  pub second : AreAbove bound b × AreUpTo bound d

pub record OnesApart (bound p q : ℕ) (a c : PlacedTree) : Type 0 where
  pub above : bound < p
  pub up_to : q ≤ bound
  pub child : AreAbove bound a × AreUpTo bound c

module _ (bound : ℕ) (x y : PlacedTree) (apart : AreAbove bound x × AreUpTo bound y) (p q : ℕ) where
  module _ (a b c d : PlacedTree) where
    twos : (bound < p) × AreAbove bound a × AreAbove bound b → (q ≤ bound) × AreUpTo bound c × AreUpTo bound d → TwosApart bound p q a b c d
    twos u v = record { above = u.0; up_to = v.0; first = (u.1, v.1); second = (u.2, v.2) }

    pub joins-apart : x ≡ Join p a b → y ≡ Join q c d → TwosApart bound p q a b c d
    joins-apart e f = twos (subst (AreAbove bound) e apart.0) (subst (AreUpTo bound) f apart.1)

    pub splits-apart : x ≡ Split p a b → y ≡ Split q c d → TwosApart bound p q a b c d
    splits-apart e f = twos (subst (AreAbove bound) e apart.0) (subst (AreUpTo bound) f apart.1)

  module _ (a c : PlacedTree) where
    ones : (bound < p) × AreAbove bound a → (q ≤ bound) × AreUpTo bound c → OnesApart bound p q a c
    ones u v = record { above = u.0; up_to = v.0; child = (u.1, v.1) }

    pub loops-apart : x ≡ Loop p a → y ≡ Loop q c → OnesApart bound p q a c
    loops-apart e f = ones (subst (AreAbove bound) e apart.0) (subst (AreUpTo bound) f apart.1)

    pub calls-apart : x ≡ Call p a → y ≡ Call q c → OnesApart bound p q a c
    calls-apart e f = ones (subst (AreAbove bound) e apart.0) (subst (AreUpTo bound) f apart.1)

    pub syscalls-apart : x ≡ Syscall p a → y ≡ Syscall q c → OnesApart bound p q a c
    syscalls-apart e f = ones (subst (AreAbove bound) e apart.0) (subst (AreUpTo bound) f apart.1)

-- ---- targets
module _ (Stands : ℕ → Type 0) where
  abbrev IsThere : Entry → Type 0
  IsThere entry = AtEach Stands entry.tree

  each-target : (es : List Entry) → InEach Stands (placed_from es) → All IsThere es
  each-target [] h = All-nil IsThere
  each-target (e ∷ es) h = All-cons IsThere e es h.0 (each-target es h.1)

  pub dyn-each : (x : PlacedTree) (at : ℕ) (es : List Entry) → x ≡ Dyn at (placed_from es) → AtEach Stands x → All IsThere es
  dyn-each x at es e h = let there : Stands at × InEach Stands (placed_from es) = subst (AtEach Stands) e h in each-target es there.1

  pub there-inside : (before : List Entry) (e : Entry) (behind : List Entry) → All IsThere (before ++ e ∷ behind) → IsThere e
  there-inside [] e behind h = All-head IsThere e behind h
  there-inside (x ∷ xs) e behind h = there-inside xs e behind (All-tail IsThere x _ h)

other-inside : (w : List ℕ) (before : List Entry) (e : Entry) (behind : List Entry) → HasNone w (before ++ e ∷ behind) → IsOther w e
other-inside w [] e behind h = All-head (IsOther w) e behind h
other-inside w (x ∷ xs) e behind h = other-inside w xs e behind (All-tail (IsOther w) x _ h)

none-earlier : (before : List Entry) (e : Entry) (behind : List Entry) → Distinct (before ++ e ∷ behind) → HasNone e.digest before
none-earlier [] e behind d = All-nil (IsOther e.digest)
none-earlier (x ∷ xs) e behind d =
    All-cons (IsOther e.digest) x xs (λ same. other-inside x.digest xs e behind d.0 (sym same)) (none-earlier xs e behind d.1)

-- of distinct targets, those before one have not its digest
pub new-target : (before : List Entry) (e : Entry) (behind : List Entry) → Distinct (before ++ e ∷ behind) → is_among e.digest (digests_in before) ≡ false
new-target before e behind d = among-none e.digest before (none-earlier before e behind d)

module _ (bound : ℕ) where
  pub above-all : (es : List Entry) → All (λ (e : Entry). AreAbove bound e.tree) es → All (IsAboveUnless bound []) es
  above-all es h = All-weaker (λ (e : Entry). AreAbove bound e.tree) (IsAboveUnless bound []) (λ e above new. above) es h

  module _ (known : List (List ℕ)) (w : List ℕ) where
    above-more : (es : List Entry) → All (IsAboveUnless bound known) es → All (IsAboveUnless bound (known ++ w ∷ [])) es
    above-more es h =
        All-weaker (IsAboveUnless bound known) (IsAboveUnless bound (known ++ w ∷ [])) (λ e above new. above (among-front e.digest known w new)) es h

    -- one of this digest is one of those merged
    above-one : (e : Entry) → e.digest ≡ w → IsAboveUnless bound (known ++ w ∷ []) e
    above-one e same new = absurd (true≢false (sym (among-last e.digest known w same) ∙ new))

    pub above-push : (es : List Entry) (e : Entry) → e.digest ≡ w → All (IsAboveUnless bound known) es
        → All (IsAboveUnless bound (known ++ w ∷ [])) (es ++ e ∷ [])
    above-push es e same h = All-push (IsAboveUnless bound (known ++ w ∷ [])) es e (above-more es h) (above-one e same)

    pub above-set : (es : List Entry) (i : ℕ) (e : Entry) → e.digest ≡ w → All (IsAboveUnless bound known) es
        → All (IsAboveUnless bound (known ++ w ∷ [])) (set es i e)
    above-set es i e same h = All-set (IsAboveUnless bound (known ++ w ∷ [])) es i e (above-one e same) (above-more es h)

    pub above-place : (es : List Entry) (i : ℕ) (p : IsFirstAt es w i) → All (IsAboveUnless bound known) es → is_among w known ≡ false
        → AreAbove bound p.entry.tree
    above-place es i p h new =
        All-head (IsAboveUnless bound known) p.entry (drop (i + 1) es)
        (All-same (IsAboveUnless bound known) _ _ (sym p.is) (All-drop (IsAboveUnless bound known) i es h))
        (ap (λ d. is_among d known) p.noted ∙ new)
