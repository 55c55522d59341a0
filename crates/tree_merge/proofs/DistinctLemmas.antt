-- Of each digest there is still one target at most.
use Rattle.std.proofs.Common.{◌≡◌, ◌≢◌, ℕ, List, [], ◌∷◌, ◌++◌, sym}
use Rattle.std.proofs.lemmas.List.Elements.{All-nil, All-cons, All-head, All-tail, All-append}
use Rattle.tree_merge.specs.Placed.{PlacedTree, Entry, placed_from, Absent}
use Rattle.tree_merge.specs.Targets.{HasNone, Distinct}

-- its digest is another one
abbrev pub IsOther : List ℕ → Entry → Type 0
IsOther digest entry = entry.digest ≢ digest

-- the same target, as another tree
abbrev pub with_tree : Entry → PlacedTree → Entry
with_tree entry tree = record { digest = entry.digest; tree = tree }

pub distinct-push : (es : List Entry) (e : Entry) → HasNone e.digest es → Distinct es → Distinct (es ++ e ∷ [])
distinct-push [] e h d = (All-nil (IsOther e.digest), tt)
distinct-push (x ∷ xs) e h d =
    let other = λ (same : e.digest ≡ x.digest). All-head (IsOther e.digest) x xs h (sym same) in (
      All-append (IsOther x.digest) xs (e ∷ []) d.0 (All-cons (IsOther x.digest) e [] other (All-nil (IsOther x.digest))),
      distinct-push xs e (All-tail (IsOther e.digest) x xs h) d.1,
    )

none-before : (w : List ℕ) (es : List Entry) (e : Entry) → HasNone w (es ++ e ∷ []) → HasNone w es × IsOther w e
none-before w [] e h = (All-nil (IsOther w), All-head (IsOther w) e [] h)
none-before w (x ∷ xs) e h =
    let more = none-before w xs e (All-tail (IsOther w) x (xs ++ e ∷ []) h) in
    (All-cons (IsOther w) x xs (All-head (IsOther w) x (xs ++ e ∷ []) h) more.0, more.1)

-- those before the last one are distinct, and have not its digest
pub distinct-before : (es : List Entry) (e : Entry) → Distinct (es ++ e ∷ []) → Distinct es × HasNone e.digest es
distinct-before [] e d = (tt, All-nil (IsOther e.digest))
distinct-before (x ∷ xs) e d =
    let first = none-before x.digest xs e d.0 in
    let more = distinct-before xs e d.1 in
    ((first.0, more.0), All-cons (IsOther e.digest) x xs (λ same. first.1 (sym same)) more.1)

none-at : (w : List ℕ) (before : List Entry) (f : Entry) (m : PlacedTree) (behind : List Entry) → HasNone w (before ++ f ∷ behind)
    → HasNone w (before ++ with_tree f m ∷ behind)
none-at w [] f m behind h = All-cons (IsOther w) (with_tree f m) behind (All-head (IsOther w) f behind h) (All-tail (IsOther w) f behind h)
none-at w (x ∷ xs) f m behind h =
    All-cons (IsOther w) x (xs ++ with_tree f m ∷ behind) (All-head (IsOther w) x (xs ++ f ∷ behind) h)
    (none-at w xs f m behind (All-tail (IsOther w) x (xs ++ f ∷ behind) h))

pub distinct-at : (before : List Entry) (f : Entry) (m : PlacedTree) (behind : List Entry) → Distinct (before ++ f ∷ behind)
    → Distinct (before ++ with_tree f m ∷ behind)
distinct-at [] f m behind d = d
distinct-at (x ∷ xs) f m behind d = (none-at x.digest xs f m behind d.0, distinct-at xs f m behind d.1)

pub absent-none : (w : List ℕ) (es : List Entry) → Absent w (placed_from es) → HasNone w es
absent-none w [] h = All-nil (IsOther w)
absent-none w (e ∷ es) h = All-cons (IsOther w) e es h.0 (absent-none w es h.1)

pub none-absent : (w : List ℕ) (es : List Entry) → HasNone w es → Absent w (placed_from es)
none-absent w [] h = tt
none-absent w (e ∷ es) h = (All-head (IsOther w) e es h, none-absent w es (All-tail (IsOther w) e es h))
