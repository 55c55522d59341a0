-- Words that are distinct, one at a time.
use Rattle.std.proofs.Common.{◌≡◌, ◌↔◌, ℕ, Bool, true, false, not, nat_eq, IsTrue, List, [], ◌∷◌, length, arith, sym, refl, ◌∙◌, true≢false}
use Rattle.std.specs.List.{IsDistinct, AllByRecursion, list_any}
use Rattle.std.proofs.lemmas.Bool.{or_parts}
use Rattle.std.proofs.lemmas.Cmp.{nat_list_eq_equiv}
use lib.Pointwise.{pointwise}
use Rattle.block_tree.specs.Kernels.{AreDistinct}

apart : (x : List ℕ) (xs : List (List ℕ)) → list_any (λ y. pointwise nat_eq y x) xs ≡ false → AllByRecursion (λ y. pointwise nat_eq x y ≡ false) xs
apart x [] h = tt
apart x (y ∷ ys) h =
    let parts : (pointwise nat_eq y x ≡ false) × (list_any (λ z. pointwise nat_eq z x) ys ≡ false)
    = or_parts (pointwise nat_eq y x) (list_any (λ z. pointwise nat_eq z x) ys) h in
    (nat_list_eq_equiv.symm x y ∙ parts.0, apart x ys parts.1)

met : (x : List ℕ) (xs : List (List ℕ)) → AllByRecursion (λ y. pointwise nat_eq x y ≡ false) xs → list_any (λ y. pointwise nat_eq y x) xs ≡ false
met x [] h = refl
met x (y ∷ ys) h = rw (nat_list_eq_equiv.symm y x, h.0) (met x ys h.1)

pub distinct-none : (words : List (List ℕ)) → length words ≡ 0 → IsTrue true ↔ AreDistinct words
unfolding IsDistinct
distinct-none [] e = (λ t. tt, λ d. refl)
distinct-none (x ∷ xs) e = absurd (omega arith)

pub distinct-one_more : (words xs : List (List ℕ)) (x : List ℕ) (b met_again : Bool) → words ≡ x ∷ xs
    → met_again ≡ list_any (λ y. pointwise nat_eq y x) xs → met_again ≡ false
    → (IsTrue b ↔ AreDistinct xs) → IsTrue b ↔ AreDistinct words
unfolding IsDistinct
distinct-one_more words xs x b met_again w m h e = rw w (λ t. (apart x xs (sym m ∙ h), e.0 t), λ d. e.1 d.1)

pub distinct-twice : (words xs : List (List ℕ)) (x : List ℕ) (met_again : Bool) → words ≡ x ∷ xs
    → met_again ≡ list_any (λ y. pointwise nat_eq y x) xs → met_again ≡ true
    → IsTrue (not met_again) ↔ AreDistinct words
unfolding IsDistinct
distinct-twice words xs x met_again w m h =
    rw (w, h) (λ t. absurd (true≢false (sym t)), λ d. absurd (true≢false (sym h ∙ (m ∙ met x xs d.0))))
