-- In which order the digests of merged targets stand.
use Rattle.std.proofs.Common.{◌≡◌, ℕ, Bool, true, false, cond, nat_eq, List, [], ◌∷◌, ◌++◌, refl, sym, ap, true≢false, ◌∙◌, append_assoc, arith}
use lib.Pointwise.{pointwise, bytes_decides}
use Rattle.std.proofs.lemmas.List.{append-nil, map-append}
use Rattle.std.proofs.lemmas.List.Elements.{All-head, All-tail}
use Rattle.tree_merge.specs.Placed.{PlacedTree, Opaque, Span, Join, Split, Loop, Call, Syscall, Dyn, Entry, placed_from, kind_of, noted_in, noted_at}
use Rattle.tree_merge.specs.Merging.{is_among, not_among}
use Rattle.tree_merge.specs.Targets.{digests_in, HasNone}
use Rattle.tree_merge.proofs.DistinctLemmas.{IsOther, with_tree}

-- ---- which digests are not among others
pub none-known : (vs : List (List ℕ)) → not_among [] vs ≡ vs
none-known [] = refl
none-known (v ∷ vs) = ap (λ xs. v ∷ xs) (none-known vs)

cond-append : (b : Bool) (v : List ℕ) (xs ys zs : List (List ℕ)) → xs ≡ ys ++ zs → cond b xs (v ∷ xs) ≡ cond b ys (v ∷ ys) ++ zs
cond-append true v xs ys zs e = e
cond-append false v xs ys zs e = ap (λ x. v ∷ x) e

not_among-append : (known vs ws : List (List ℕ)) → not_among known (vs ++ ws) ≡ not_among known vs ++ not_among known ws
not_among-append known [] ws = refl
not_among-append known (v ∷ vs) ws = cond-append (is_among v known) v _ _ _ (not_among-append known vs ws)

among-append : (w : List ℕ) (xs ys : List (List ℕ)) → is_among w ys ≡ false → is_among w (xs ++ ys) ≡ is_among w xs
among-append w [] ys e = e
among-append w (x ∷ xs) ys e = ap (λ r. cond (pointwise nat_eq x w) true r) (among-append w xs ys e)

head-false : (b r : Bool) → cond b true r ≡ false → b ≡ false
head-false true r e = e
head-false false r e = refl

tail-false : (b r : Bool) → cond b true r ≡ false → r ≡ false
tail-false true r e = absurd (true≢false e)
tail-false false r e = e

hit : (b r : Bool) → r ≡ true → cond b true r ≡ true
hit true r e = refl
hit false r e = e

-- one that is not among digests and one more is not among them
pub among-front : (w : List ℕ) (xs : List (List ℕ)) (v : List ℕ) → is_among w (xs ++ v ∷ []) ≡ false → is_among w xs ≡ false
among-front w [] v e = refl
among-front w (x ∷ xs) v e =
    ap (λ b. cond b true (is_among w xs)) (head-false (pointwise nat_eq x w) (is_among w (xs ++ v ∷ [])) e)
    ∙ among-front w xs v (tail-false (pointwise nat_eq x w) (is_among w (xs ++ v ∷ [])) e)

-- the last of digests is among them
pub among-last : (w : List ℕ) (xs : List (List ℕ)) (v : List ℕ) → w ≡ v → is_among w (xs ++ v ∷ []) ≡ true
among-last w [] v same = ap (λ b. cond b true false) ((bytes_decides v w).1 (sym same))
among-last w (x ∷ xs) v same = hit (pointwise nat_eq x w) _ (among-last w xs v same)

kept : (c : Bool) (w v : List ℕ) (xs : List (List ℕ)) → pointwise nat_eq v w ≡ false → is_among w xs ≡ false
    → is_among w (cond c xs (v ∷ xs)) ≡ false
kept true w v xs f e = e
kept false w v xs f e = ap (λ b. cond b true (is_among w xs)) f ∙ e

-- one that is not among digests is not among some of them
among-some : (w : List ℕ) (known vs : List (List ℕ)) → is_among w vs ≡ false → is_among w (not_among known vs) ≡ false
among-some w known [] e = refl
among-some w known (v ∷ vs) e =
    kept (is_among v known) w v (not_among known vs) (head-false (pointwise nat_eq v w) (is_among w vs) e)
    (among-some w known vs (tail-false (pointwise nat_eq v w) (is_among w vs) e))

-- ---- targets
miss : (b r : Bool) → (b ≡ true → ⊥) → r ≡ false → cond b true r ≡ false
miss true r n e = absurd (n refl)
miss false r n e = e

pub among-none : (w : List ℕ) (es : List Entry) → HasNone w es → is_among w (digests_in es) ≡ false
among-none w [] h = refl
among-none w (e ∷ es) h =
    miss (pointwise nat_eq e.digest w) _ (λ is. All-head (IsOther w) e es h ((bytes_decides _ _).0 is))
    (among-none w es (All-tail (IsOther w) e es h))

among-here : (w : List ℕ) (before : List Entry) (f : Entry) (behind : List Entry) → f.digest ≡ w
    → is_among w (digests_in (before ++ f ∷ behind)) ≡ true
among-here w [] f behind same = ap (λ b. cond b true (is_among w (digests_in behind))) ((bytes_decides f.digest w).1 same)
among-here w (x ∷ xs) f behind same = hit (pointwise nat_eq x.digest w) _ (among-here w xs f behind same)

same-digests : (before : List Entry) (f : Entry) (m : PlacedTree) (behind : List Entry)
    → digests_in (before ++ with_tree f m ∷ behind) ≡ digests_in (before ++ f ∷ behind)
same-digests [] f m behind = refl
same-digests (x ∷ xs) f m behind = ap (λ ws. x.digest ∷ ws) (same-digests xs f m behind)

abbrev digest_in : Entry → List ℕ
digest_in entry = entry.digest

pub push-order : (es : List Entry) (e : Entry) → HasNone e.digest es
    → digests_in (es ++ e ∷ []) ≡ digests_in es ++ not_among (digests_in es) (e.digest ∷ [])
push-order es e h =
    map-append digest_in es (e ∷ []) ∙ sym (ap (λ b. digests_in es ++ cond b [] (e.digest ∷ [])) (among-none e.digest es h))

pub place-order : (before : List Entry) (f : Entry) (m : PlacedTree) (behind : List Entry) (w : List ℕ) → f.digest ≡ w
    → digests_in (before ++ with_tree f m ∷ behind)
    ≡ digests_in (before ++ f ∷ behind) ++ not_among (digests_in (before ++ f ∷ behind)) (w ∷ [])
place-order before f m behind w same =
    let ws = digests_in (before ++ f ∷ behind) in
    same-digests before f m behind ∙ sym (append-nil ws) ∙ sym (ap (λ b. ws ++ cond b [] (w ∷ [])) (among-here w before f behind same))

-- one more, whose digest those before it have not
pub more-order : (xs ys ms ms' : List Entry) (e : Entry) → HasNone e.digest ys
    → digests_in ms ≡ digests_in xs ++ not_among (digests_in xs) (digests_in ys)
    → digests_in ms' ≡ digests_in ms ++ not_among (digests_in ms) (e.digest ∷ [])
    → digests_in ms' ≡ digests_in xs ++ not_among (digests_in xs) (digests_in (ys ++ e ∷ []))
more-order xs ys ms ms' e h before more =
    let known = digests_in xs in
    let others = not_among known (digests_in ys) in
    more ∙ ap (λ ws. ws ++ not_among ws (e.digest ∷ [])) before
    ∙ ap (λ b. (known ++ others) ++ cond b [] (e.digest ∷ []))
    (among-append e.digest known others (among-some e.digest known (digests_in ys) (among-none e.digest ys h)))
    ∙ append_assoc known others (not_among known (e.digest ∷ []))
    ∙ sym (ap (λ ws. known ++ ws) (not_among-append known (digests_in ys) (e.digest ∷ [])))
    ∙ sym (ap (λ ws. known ++ not_among known ws) (map-append digest_in ys (e ∷ [])))

-- ---- roots
pub noted-from : (es : List Entry) → noted_in (placed_from es) ≡ digests_in es
noted-from [] = refl
noted-from (e ∷ es) = ap (λ ws. e.digest ∷ ws) (noted-from es)

none-noted : (a : PlacedTree) → kind_of a ≡ 0 → noted_at a ≡ []
none-noted (Opaque digest) k = refl
none-noted (Span at batches) k = refl
none-noted (Join at x y) k = refl
none-noted (Split at x y) k = refl
none-noted (Loop at x) k = refl
none-noted (Call at x) k = refl
none-noted (Syscall at x) k = refl
none-noted (Dyn at ts) k = absurd (omega (arith, k))

pub opaque-first_order : (a b : PlacedTree) → kind_of a ≡ 0 → noted_at b ≡ noted_at a ++ not_among (noted_at a) (noted_at b)
opaque-first_order a b k = sym (ap (λ ws. ws ++ not_among ws (noted_at b)) (none-noted a k) ∙ none-known (noted_at b))

pub opaque-second_order : (a b : PlacedTree) → kind_of b ≡ 0 → noted_at a ≡ noted_at a ++ not_among (noted_at a) (noted_at b)
opaque-second_order a b k = sym (ap (λ ws. noted_at a ++ not_among (noted_at a) ws) (none-noted b k) ∙ append-nil (noted_at a))
