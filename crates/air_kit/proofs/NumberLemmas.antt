-- Where a family stands in a list of values.
use Rattle.std.proofs.Common.{◌≡◌, ℕ, zero, suc, ◌+◌, ◌<◌, List, ◌++◌, drop, refl, sym, ap, ◌∙◌, arith}
use Rattle.std.proofs.lemmas.List.{get_or-drop}
use Rattle.std.specs.List.{slice_index}
use Rattle.air_kit.specs.Places.{at_number, family}

-- member j of a family, which stands first
member : (n : ℕ) (value : ℕ → ℕ) (rest : List ℕ) (j : ℕ) → j < n → slice_index (family n value ++ rest) j ≡ value j
unfolding family
member zero value rest j low = absurd (omega arith)
member (suc n) value rest zero low = refl
member (suc n) value rest (suc j) low = member n (λ i. value (suc i)) rest j (omega arith)

-- and where so many values stand before it
pub family_at : (values : List ℕ) (before n : ℕ) (value : ℕ → ℕ) → drop before values ≡ family n value ++ drop (before + n) values
    → (j : ℕ) → j < n → at_number values (suc before + j) ≡ value j
unfolding at_number
family_at values before n value split j low =
    let later : suc before + j ≡ suc (before + j) = omega arith in
    rw later (sym (get_or-drop before values j 0) ∙ ap (λ vs. slice_index vs j) split ∙ member n value (drop (before + n) values) j low)
