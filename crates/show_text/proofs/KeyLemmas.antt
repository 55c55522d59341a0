-- Rows with a number in a column, looked for one after another.
use Rattle.std.proofs.Common.{◌≡◌, ℕ, ◌+◌, ◌<◌, ◌≤◌, Bool, true, false, List, [], ◌∷◌, drop, get_or, length, Option, Some, None, refl, sym, ap, ◌∙◌}
use Rattle.std.specs.Prelude.{◌==◌, if◌then◌else◌}
use Rattle.std.proofs.Math.ListN.{drop_of_length-le}
use Rattle.std.proofs.lemmas.List.{drop_more}
use Rattle.show_text.specs.KeyRows.{first_with, last_with, or_before}

module _ (column : List ℕ → ℕ) (value : ℕ) where
  first_of : (n : ℕ) (row : List ℕ) (rows : List (List ℕ))
      → first_with column value n (row ∷ rows) ≡ (if column row == value then Some n else first_with column value (n + 1) rows)
  unfolding first_with
  first_of n row rows = refl

  first_at : (n : ℕ) (rows : List (List ℕ)) (has : Bool) → n < length rows → (column (get_or rows n []) == value) ≡ has
      → first_with column value n (drop n rows) ≡ (if has then Some n else first_with column value (n + 1) (drop (n + 1) rows))
  first_at n rows has within is =
      ap (first_with column value n) (drop_more rows n [] within) ∙ first_of n (get_or rows n []) (drop (n + 1) rows)
      ∙ ap (λ (t : Bool). if t then Some n else first_with column value (n + 1) (drop (n + 1) rows)) is

  -- a row that has it is the first one
  pub first_found : (n : ℕ) (rows : List (List ℕ)) → n < length rows → (column (get_or rows n []) == value) ≡ true
      → Some n ≡ first_with column value n (drop n rows)
  first_found n rows within is = sym (first_at n rows true within is)

  -- one that has it not is passed by
  pub first_goes_on : (n : ℕ) (rows : List (List ℕ)) → n < length rows → (column (get_or rows n []) == value) ≡ false
      → first_with column value (n + 1) (drop (n + 1) rows) ≡ first_with column value n (drop n rows)
  first_goes_on n rows within is = sym (first_at n rows false within is)

  -- behind the last row there is none
  pub first_none : (n : ℕ) (rows : List (List ℕ)) → length rows ≤ n → None ≡ first_with column value n (drop n rows)
  unfolding first_with
  first_none n rows past = sym (ap (first_with column value n) (drop_of_length-le rows past))

  last_of : (n : ℕ) (row : List ℕ) (rows : List (List ℕ))
      → last_with column value n (row ∷ rows) ≡ or_before (last_with column value (n + 1) rows) (if column row == value then Some n else None)
  unfolding last_with
  last_of n row rows = refl

  behind : (later here before : Option ℕ) → or_before later (or_before here before) ≡ or_before (or_before later here) before
  behind None here before = refl
  behind (Some n) here before = refl

  -- one row more
  pub last_goes_on : (n : ℕ) (rows : List (List ℕ)) (before last : Option ℕ) → n < length rows
      → last ≡ or_before (if column (get_or rows n []) == value then Some n else None) before
      → or_before (last_with column value (n + 1) (drop (n + 1) rows)) last ≡ or_before (last_with column value n (drop n rows)) before
  last_goes_on n rows before last within is =
      let later = last_with column value (n + 1) (drop (n + 1) rows) in
      ap (or_before later) is ∙ behind later (if column (get_or rows n []) == value then Some n else None) before
      ∙ ap (λ x. or_before x before)
      (sym (ap (last_with column value n) (drop_more rows n [] within) ∙ last_of n (get_or rows n []) (drop (n + 1) rows)))

  -- and no row more
  pub last_ends : (n : ℕ) (rows : List (List ℕ)) (last : Option ℕ) → length rows ≤ n → last ≡ or_before (last_with column value n (drop n rows)) last
  unfolding last_with
  last_ends n rows last past = sym (ap (λ x. or_before (last_with column value n x) last) (drop_of_length-le rows past))
