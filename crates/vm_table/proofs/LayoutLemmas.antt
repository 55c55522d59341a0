-- A further row of a table.
use Rattle.std.proofs.Common.{◌≡◌, ℕ, ◌*◌, ◌^◌, ◌<◌, ◌≤◌, List, [], ◌∷◌, ◌++◌, length, get_or, sym, ap, subst, ◌∙◌, arith, inl, inr, length-append, lit<}
use Rattle.std.proofs.Math.ListN.{get_or-append}
use Rattle.std.proofs.Math.Seq.{get_or-append_seam}
use Rattle.std.proofs.lemmas.List.{get_or_past}
use Rattle.std.proofs.lemmas.Bool.{cases_lt}
use Rattle.vm_field.specs.Field.{prime}
use Rattle.vm_table.specs.Layout.{IsHeld}

-- the row that stands at a place of the rows and one more is one of them, or that one, or behind the end
pub row_of-more : (rows : List (List ℕ)) (row : List ℕ) (i : ℕ) → (P : List ℕ → Type 0)
    → (i < length rows → P (get_or rows i [])) → (i ≡ length rows → P row) → (length rows < i → P [])
    → P (get_or (rows ++ row ∷ []) i [])
row_of-more rows row i P before here past =
    elim (cases_lt i (length rows)) [
      | inl below ↦ subst P (sym (get_or-append rows (row ∷ []) [] i below)) (before below)
      | inr above ↦ elim (cases_lt (length rows) i) [
        | inl far ↦
            let end : length (rows ++ row ∷ []) ≤ i = omega (arith, length-append rows (row ∷ []), far) in
            subst P (sym (get_or_past (rows ++ row ∷ []) i [] end)) (past far)
        | inr near ↦
            let is : i ≡ length rows = omega (arith, above, near) in
            subst P (sym (ap (λ k. get_or (rows ++ row ∷ []) k []) is ∙ get_or-append_seam rows row [] [])) (here is)
      ]
    ]

-- rows and one more are held
pub held_with : (w : ℕ) (rows : List (List ℕ)) (row : List ℕ) → IsHeld w rows → length row ≡ w → ((k : ℕ) → get_or row k 0 < prime)
    → w * 2112 < 2 ^ 63 → IsHeld w (rows ++ row ∷ [])
held_with w rows row held wide low few = record {
  shape = record {
    wide = λ i h. row_of-more rows row i (λ r. length r ≡ w) (λ inside. held.shape.wide i inside) (λ is. wide)
        (λ far. absurd (omega (arith, h, far, length-append rows (row ∷ []))));
    below = λ i k. row_of-more rows row i (λ r. get_or r k 0 < prime) (λ inside. held.shape.below i k) (λ is. low k) (λ far. lit< tt);
  };
  few = λ some. few;
}
