-- The test of a list for repeated words.
use Rattle.std.proofs.Common.{◌≡◌, ◌↔◌, ℕ, Bool, true, false, not, ◌&&◌, ◌||◌, nat_eq, IsTrue, List, [], ◌∷◌, refl, sym, true≢false}
use Rattle.std.specs.List.{IsDistinct, AllByRecursion, list_any}
use Rattle.block_tree.specs.Kernels.{AreDistinct}
use Rattle.statement.specs.Statements.{are_distinct}
use lib.Pointwise.{pointwise}

or-false : (a b : Bool) → (a || b) ≡ false → (a ≡ false) × (b ≡ false)
or-false true b h = absurd (true≢false h)
or-false false b h = (refl, h)

apart : (x : List ℕ) (xs : List (List ℕ)) → list_any (pointwise nat_eq x) xs ≡ false → AllByRecursion (λ y. pointwise nat_eq x y ≡ false) xs
apart x [] h = tt
apart x (y ∷ ys) h =
    let parts : (pointwise nat_eq x y ≡ false) × (list_any (pointwise nat_eq x) ys ≡ false)
    = or-false (pointwise nat_eq x y) (list_any (pointwise nat_eq x) ys) h in
    (parts.0, apart x ys parts.1)

met : (x : List ℕ) (xs : List (List ℕ)) → AllByRecursion (λ y. pointwise nat_eq x y ≡ false) xs → list_any (pointwise nat_eq x) xs ≡ false
met x [] h = refl
met x (y ∷ ys) h = rw h.0 (met x ys h.1)

none_met : (a b : Bool) → (not a && b) ≡ true → (a ≡ false) × (b ≡ true)
none_met true b h = absurd (true≢false (sym h))
none_met false b h = (refl, h)

distinct : (words : List (List ℕ)) → are_distinct words ≡ true → AreDistinct words
unfolding IsDistinct
distinct [] h = tt
distinct (x ∷ xs) h =
    let parts : (list_any (pointwise nat_eq x) xs ≡ false) × (are_distinct xs ≡ true)
    = none_met (list_any (pointwise nat_eq x) xs) (are_distinct xs) h in
    (apart x xs parts.0, distinct xs parts.1)

pub passes : (words : List (List ℕ)) → AreDistinct words → are_distinct words ≡ true
unfolding IsDistinct
passes [] d = refl
passes (x ∷ xs) d = rw (met x xs d.0) (passes xs d.1)

refused : (words : List (List ℕ)) (b : Bool) → are_distinct words ≡ b → (AreDistinct words → ⊥) → are_distinct words ≡ false
refused words true e apart = absurd (apart (distinct words e))
refused words false e apart = e

-- a test that decides it gives what the definition gives
pub tested : (words : List (List ℕ)) (b : Bool) → IsTrue b ↔ AreDistinct words → b ≡ are_distinct words
tested words true d = sym (passes words (d.0 refl))
tested words false d = sym (refused words _ refl (λ h. true≢false (sym (d.1 h))))
