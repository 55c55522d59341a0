-- Where a digest stands first in a list of digests.
use Rattle.std.proofs.Common.{◌≡◌, ◌↔◌, ℕ, suc, ◌+◌, Bool, true, false, cond, nat_eq, List, [], ◌∷◌, ◌++◌, length, Option, Some, None, refl, ap, ◌∙◌, arith, true≢false, add-one}
use lib.Pointwise.{pointwise, bytes_decides}
use Rattle.std.specs.Option.{option_map}
use Rattle.tree_hash.specs.Places.{first_place}
use Rattle.tree_merge.specs.Merging.{is_among}

-- one place further where the digest in front is another one
step-on : (here among : Bool) (found : Option ℕ) (n : ℕ) → (among ≡ false → found ≡ Some n) → cond here true among ≡ false
    → cond here (Some 0) (option_map (λ i. i + 1) found) ≡ Some (suc n)
step-on true among found n f h = absurd (true≢false h)
step-on false among found n f h = ap (option_map (λ i. i + 1)) (f h) ∙ ap Some (add-one n)

step-back : (here among : Bool) (found : Option ℕ) (n : ℕ) → (found ≡ Some n → among ≡ false)
    → cond here (Some 0) (option_map (λ i. i + 1) found) ≡ Some (suc n) → cond here true among ≡ false
step-back true among found n f h = cc
step-back false among None n f h = cc
step-back false among (Some k) n f h =
    let next : k + 1 ≡ suc n = cc in
    let same : k ≡ n = omega (arith, next) in
    f (ap Some same)

stands-first : (before : List (List ℕ)) (digest : List ℕ) (behind : List (List ℕ)) → is_among digest before ≡ false
    → first_place (before ++ digest ∷ behind) digest ≡ Some (length before)
stands-first [] digest behind h =
    ap (λ b. cond b (Some 0) (option_map (λ i. i + 1) (first_place behind digest))) ((bytes_decides digest digest).1 refl)
stands-first (other ∷ before) digest behind h =
    step-on (pointwise nat_eq other digest) (is_among digest before) (first_place (before ++ digest ∷ behind) digest) (length before)
    (stands-first before digest behind) h

is-new : (before : List (List ℕ)) (digest : List ℕ) (behind : List (List ℕ))
    → first_place (before ++ digest ∷ behind) digest ≡ Some (length before) → is_among digest before ≡ false
is-new [] digest behind h = refl
is-new (other ∷ before) digest behind h =
    step-back (pointwise nat_eq other digest) (is_among digest before) (first_place (before ++ digest ∷ behind) digest) (length before)
    (is-new before digest behind) h

-- a digest is looked up at a place where it stands exactly where it is not among those before
pub first-exactly : (before : List (List ℕ)) (digest : List ℕ) (behind : List (List ℕ))
    → (first_place (before ++ digest ∷ behind) digest ≡ Some (length before)) ↔ (is_among digest before ≡ false)
first-exactly before digest behind = (is-new before digest behind, stands-first before digest behind)
