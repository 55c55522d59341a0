-- Which digests are among others, and a choice between two lists.
use Rattle.std.proofs.Common.{◌≡◌, Bool, true, false, cond, nat_eq, ℕ, List, [], ◌∷◌, ◌++◌, refl, sym, ap, ◌∙◌, true≢false}
use lib.Pointwise.{pointwise, bytes_decides}
use Rattle.tree_merge.specs.Merging.{is_among}

pub cond-of : {X : Type 0} (P : X → Type 0) (b : Bool) (x y : X) → (b ≡ true → P x) → (b ≡ false → P y) → P (cond b x y)
cond-of P true x y f g = f refl
cond-of P false x y f g = g refl

neither : (b r s : Bool) → cond b true r ≡ false → (r ≡ false → s ≡ false) → cond b true s ≡ false
neither true r s e f = e
neither false r s e f = f e

either : (b r s : Bool) → cond b true r ≡ true → (r ≡ true → s ≡ true) → cond b true s ≡ true
either true r s e f = refl
either false r s e f = f e

-- one more digest, which is another one
pub among-more : (w : List ℕ) (xs : List (List ℕ)) (v : List ℕ) → is_among w xs ≡ false → pointwise nat_eq v w ≡ false
    → is_among w (xs ++ v ∷ []) ≡ false
among-more w [] v h other = ap (λ b. cond b true false) other
among-more w (x ∷ xs) v h other =
    neither (pointwise nat_eq x w) (is_among w xs) (is_among w (xs ++ v ∷ [])) h (λ e. among-more w xs v e other)

-- one that is among digests is among more of them
pub among-kept : (w : List ℕ) (xs : List (List ℕ)) (v : List ℕ) → is_among w xs ≡ true → is_among w (xs ++ v ∷ []) ≡ true
among-kept w [] v h = absurd (true≢false (sym h))
among-kept w (x ∷ xs) v h = either (pointwise nat_eq x w) (is_among w xs) (is_among w (xs ++ v ∷ [])) h (λ e. among-kept w xs v e)

same-false : (b : Bool) → (b ≡ true → ⊥) → b ≡ false
same-false true f = absurd (f refl)
same-false false f = refl

-- one that is among digests is none that is not
pub others-apart : (v w : List ℕ) (xs : List (List ℕ)) → is_among v xs ≡ true → is_among w xs ≡ false → pointwise nat_eq v w ≡ false
others-apart v w xs h g =
    same-false (pointwise nat_eq v w) (λ e. true≢false (sym h ∙ ap (λ x. is_among x xs) ((bytes_decides v w).0 e) ∙ g))
