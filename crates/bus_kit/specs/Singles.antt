-- Both counts of single elements.
use Rattle.std.specs.Prelude.{◌≡◌, ◌≢◌, ℕ, ◌<◌, nat_lt, if◌then◌else◌, List, [], ◌∷◌, length, slice_index_or, Option, Some, None}

-- the counts by place of a value below 2^16, and those of a map of another; none of what is no single element
abbrev pub one_at : List (ℕ × ℕ) → (List ℕ → ℕ × ℕ) → List ℕ → ℕ × ℕ
one_at small great [] = (0, 0)
one_at small great (v ∷ []) = if nat_lt v 65536 then slice_index_or small v (0, 0) else great (v ∷ [])
one_at small great (v ∷ w ∷ us) = (0, 0)

-- the counts at each place below are alike
abbrev pub AreAlikeBelow : List (ℕ × ℕ) → ℕ → Type 0
AreAlikeBelow small n = (v : ℕ) → v < n → (slice_index_or small v (0, 0)).0 ≡ (slice_index_or small v (0, 0)).1

-- the least place with two counts that are apart, if there is one
abbrev pub FirstApart : List (ℕ × ℕ) → Option ℕ → Type 0
FirstApart small None = AreAlikeBelow small (length small)
FirstApart small (Some place) =
    (place < length small) × ((slice_index_or small place (0, 0)).0 ≢ (slice_index_or small place (0, 0)).1)
    × AreAlikeBelow small place
