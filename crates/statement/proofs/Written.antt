-- The arrays that are written of numbers: their text, and what is read of them.
use Rattle.std.proofs.Common.{◌≡◌, ℕ, suc, ◌<◌, List, [], ◌∷◌, ◌++◌, decimal, true, false, All, Some, refl, sym, ap, ◌∙◌, append_assoc, arith}
use Rattle.serde_json.specs.Data.{items_depth}
use Rattle.serde_json.specs.Written.{items_text, items_have_float}
use Rattle.vm_field.specs.Field.{prime}
use Rattle.vm_field.proofs.Algebra.{element_from-below}
use Rattle.statement.specs.Values.{are_numbers, elements_of}
use Rattle.statement.specs.ToJson.{numbers_of, listed}

pub items_have_float-numbers_of : (xs : List ℕ) → items_have_float (numbers_of xs) ≡ false
items_have_float-numbers_of [] = refl
items_have_float-numbers_of (x ∷ xs) = items_have_float-numbers_of xs

pub items_depth-numbers_of : (xs : List ℕ) → items_depth (numbers_of xs) ≡ 0
items_depth-numbers_of [] = refl
items_depth-numbers_of (x ∷ xs) = rw (items_depth-numbers_of xs) refl

-- ---- the text

listed_on : (x : ℕ) (xs : List ℕ) → decimal x ++ items_text true (numbers_of xs) ≡ listed (x ∷ xs) ++ 93 ∷ []
listed_on x [] = refl
listed_on x (y ∷ ys) =
    ap (λ s. decimal x ++ 44 ∷ s) (listed_on y ys) ∙ sym (append_assoc (decimal x) (44 ∷ listed (y ∷ ys)) (93 ∷ []))

pub items_text-numbers_of : (xs : List ℕ) → items_text false (numbers_of xs) ≡ listed xs ++ 93 ∷ []
items_text-numbers_of [] = refl
items_text-numbers_of (x ∷ xs) = listed_on x xs

-- ---- what is read of it

pub are_numbers-numbers_of : (xs : List ℕ) → are_numbers (numbers_of xs) ≡ true
are_numbers-numbers_of [] = refl
are_numbers-numbers_of (x ∷ xs) = are_numbers-numbers_of xs

pub elements_of-numbers_of : (xs : List ℕ) → All (λ x. x < prime) xs → elements_of (numbers_of xs) ≡ Some xs
elements_of-numbers_of [] h = refl
elements_of-numbers_of (x ∷ xs) h =
    rw (element_from-below x (h 0 0 (omega arith)), elements_of-numbers_of xs (λ k d within. h (suc k) d (omega arith))) refl
