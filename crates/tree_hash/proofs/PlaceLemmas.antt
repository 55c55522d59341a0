-- The places of digests, as digests come in, and the first target of a digest by its place.
use Rattle.std.proofs.Common.{◌≡◌, ℕ, suc, ◌+◌, ◌<◌, Bool, true, false, cond, nat_eq, List, [], ◌∷◌, ◌++◌, map, take, get_or, length, Option, Some, None, refl, ap, ◌∙◌, is_some, add-one, arith}
use lib.Pointwise.{pointwise}
use Rattle.std.proofs.lemmas.List.{map_more, length-map, length-take-le}
use Rattle.std.specs.Map.{lookup}
use Rattle.std.specs.Option.{option_or, option_map}
use Rattle.indexmap.specs.IndexMap.{IndexMap, get_by, insert_entry}
use Rattle.indexmap.proofs.CallerLemmas.{insert_entry-new}
use Rattle.tree_hash.specs.Places.{first_place}

none_from : {X : Type 0} (x : Option X) → is_some x ≡ false → x ≡ None
none_from None e = refl
none_from (Some v) e = cc

choice : {X : Type 0} (test : Bool) (v : X) (later added : Option X)
    → cond test (Some v) (option_or later added) ≡ option_or (cond test (Some v) later) added
choice true v later added = refl
choice false v later added = refl

lookup-push : {K X : Type 0} (test : K → Bool) (es : List (K × X)) (k : K) (v : X)
    → lookup test (es ++ (k, v) ∷ []) ≡ option_or (lookup test es) (cond (test k) (Some v) None)
lookup-push test [] k v = refl
lookup-push test (e ∷ es) k v = ap (λ r. cond (test e.0) (Some e.1) r) (lookup-push test es k v) ∙ choice (test e.0) e.1 (lookup test es) _

-- the places after a digest came in that had none
pub place-added : {S : Type 0} (old new : IndexMap (List ℕ) ℕ S) (digest other : List ℕ) (place : ℕ)
    → new.entries ≡ insert_entry (pointwise nat_eq) old.entries digest place → is_some (get_by (pointwise nat_eq digest) old) ≡ false
    → (pointwise nat_eq other digest ≡ pointwise nat_eq digest other)
    → get_by (pointwise nat_eq other) new ≡ option_or (get_by (pointwise nat_eq other) old) (cond (pointwise nat_eq digest other) (Some place) None)
place-added old new digest other place inserted absent swapped =
    ap (lookup (pointwise nat_eq other))
    (inserted ∙ insert_entry-new (pointwise nat_eq) old digest place (none_from _ absent))
    ∙ (lookup-push (pointwise nat_eq other) old.entries digest place
    ∙ ap (λ b. option_or (get_by (pointwise nat_eq other) old) (cond b (Some place) None)) swapped)

one_more : (later : Option ℕ) (test : Bool) (n : ℕ)
    → option_map (λ i. i + 1) (option_or later (cond test (Some n) None)) ≡ option_or (option_map (λ i. i + 1) later) (cond test (Some (suc n)) None)
one_more None true n = rw add-one refl
one_more None false n = refl
one_more (Some k) test n = refl

-- the places after a digest came in
first_place-push : (digests : List (List ℕ)) (digest other : List ℕ)
    → first_place (digests ++ digest ∷ []) other
    ≡ option_or (first_place digests other) (cond (pointwise nat_eq digest other) (Some (length digests)) None)
first_place-push [] digest other = refl
first_place-push (d ∷ digests) digest other =
    ap (λ r. cond (pointwise nat_eq d other) (Some 0) (option_map (λ i. i + 1) r)) (first_place-push digests digest other)
    ∙ (ap (λ r. cond (pointwise nat_eq d other) (Some 0) r) (one_more (first_place digests other) (pointwise nat_eq digest other) (length digests))
    ∙ choice (pointwise nat_eq d other) 0 (option_map (λ i. i + 1) (first_place digests other)) _)

-- the places of one more of a list's digests
pub first_place-more : {X : Type 0} (digest : X → List ℕ) (items : List X) (i : ℕ) (d : X) (other : List ℕ) → i < length items
    → first_place (map digest (take (i + 1) items)) other
    ≡ option_or (first_place (map digest (take i items)) other) (cond (pointwise nat_eq (digest (get_or items i d)) other) (Some i) None)
first_place-more digest items i d other within =
    ap (λ digests. first_place digests other) (map_more digest items i d within)
    ∙ (first_place-push (map digest (take i items)) (digest (get_or items i d)) other
    ∙ ap (λ n. option_or (first_place (map digest (take i items)) other) (cond (pointwise nat_eq (digest (get_or items i d)) other) (Some n) None))
    (length-map (take i items) digest ∙ length-take-le i items (omega arith)))
