-- Levels, told one by one.
use Rattle.std.proofs.Common.{◌≡◌, ℕ, zero, suc, ◌+◌, ◌<◌, Bool, true, List, [], ◌∷◌, ◌++◌, length, drop, slice_get, Some, refl, ap, sym, subst, ◌∙◌, arith, add-one, append_assoc}
use Rattle.std.specs.Prelude.{Result, OnOk}
use Rattle.std.proofs.lemmas.List.{length-drop}
use Rattle.masm_places.specs.Pending.{Level}
use Rattle.show_cycles.specs.CycleLines.{begins_procedure, level_text, levels_text, told_text}

-- what stands at a place is the first of what is left there
pub get_first : {A : Type 0} (xs : List A) (n : ℕ) (x : A) → Some x ≡ slice_get xs n → drop n xs ≡ x ∷ drop (n + 1) xs
get_first [] n x is = cc
get_first (y ∷ ys) zero x is = cc
get_first (y ∷ ys) (suc n) x is = rw add-one (rw add-one at (get_first ys n x is))

-- a level more
pub next_level : (text longer : List ℕ) (placed later : Bool) (levels : List Level) (n : ℕ) (l : Level) → Some l ≡ slice_get levels n
    → longer ≡ text ++ level_text placed l → later ≡ begins_procedure l.part
    → longer ++ levels_text later (drop (n + 1) levels) ≡ text ++ levels_text placed (drop n levels)
next_level text longer placed later levels n l at is then =
    ap (λ (t : List ℕ). t ++ levels_text later (drop (n + 1) levels)) is
    ∙ append_assoc text (level_text placed l) (levels_text later (drop (n + 1) levels))
    ∙ ap (λ (p : Bool). text ++ (level_text placed l ++ levels_text p (drop (n + 1) levels))) then
    ∙ ap (λ (ls : List Level). text ++ levels_text placed ls) (sym (get_first levels n l at))

some_told : (levels : List Level) → 0 < length levels → told_text levels ≡ levels_text true levels
some_told [] some = absurd (omega arith)
some_told (l ∷ levels) some = refl

-- some level is told
pub told_from : {A E : Type 0} (r : Result A E) (new text : List ℕ) (levels : List Level) (n : ℕ) → n < length levels
    → OnOk r (new ≡ text ++ levels_text true (drop n levels)) → OnOk r (new ≡ text ++ told_text (drop n levels))
told_from r new text levels n some told =
    subst (λ (t : List ℕ). OnOk r (new ≡ text ++ t))
    (sym (some_told (drop n levels) (rw length-drop (omega arith)))) told

-- a line of four pieces, made one behind the other
pub four_more : (text a b c d one two three four : List ℕ) → one ≡ text ++ a → two ≡ one ++ b → three ≡ two ++ c → four ≡ three ++ d
    → four ≡ text ++ (((a ++ b) ++ c) ++ d)
four_more text a b c d one two three four is_one is_two is_three is_four =
    is_four ∙ ap (λ (t : List ℕ). t ++ d) (is_three ∙ ap (λ (t : List ℕ). t ++ c) (is_two ∙ ap (λ (t : List ℕ). t ++ b) is_one))
    ∙ simp append_assoc
