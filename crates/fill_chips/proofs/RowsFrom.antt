-- The rows of the range table from a value on.
use Rattle.fill_chips.proofs.Words.{◌≡◌, ℕ, zero, suc, ◌+◌, ◌-◌, ◌<◌, ◌≤◌, true, false, ltb, List, [], ◌∷◌, ◌++◌, length, slice_index, refl, sym, ap, ap₂}
use Rattle.fill_chips.proofs.Words.{◌∙◌, append_assoc, arith, length_push, nat_tests, AreTimes, allowed_steps, next_asked, range_row, range_rows, rows_from}
use Rattle.fill_chips.proofs.Words.{step_within, value_behind}
use Rattle.fill_chips.proofs.NextLemmas.{next-above, next-last}
use Rattle.fill_chips.proofs.StepLemmas.{step-far, step-on}

pub behind-is : (asked : List ℕ) (v : ℕ) → value_behind asked v ≡ v + step_within allowed_steps (next_asked asked v - v)
unfolding value_behind
behind-is asked v = refl

-- a value goes on, and not beyond the next asked one
pub behind-on : (asked : List ℕ) (v : ℕ) → v < 65535 → v < value_behind asked v
behind-on asked v h =
    let above = next-above asked v h in
    let e = behind-is asked v in
    let on = step-on (next_asked asked v - v) (omega arith) in
    omega (arith, e, on)

pub behind-far : (asked : List ℕ) (v : ℕ) → v < 65535 → value_behind asked v ≤ next_asked asked v
behind-far asked v h =
    let above = next-above asked v h in
    let e = behind-is asked v in
    let far = step-far allowed_steps (next_asked asked v - v) in
    omega (arith, e, far)

pub behind-last : (asked : List ℕ) (v : ℕ) → v < 65535 → value_behind asked v ≤ 65535
behind-last asked v h = let far = behind-far asked v h in let most = next-last asked v in omega arith

pub rows-more : (n : ℕ) (asked : List ℕ) (v : ℕ) → v < 65535
    → rows_from (suc n) asked v ≡ range_row asked v ∷ rows_from n asked (value_behind asked v)
unfolding rows_from
rows-more n asked v h = let e : ltb v 65535 ≡ true = grind (arith, nat_tests) in rw e refl

pub rows-last : (n : ℕ) (asked : List ℕ) (v : ℕ) → 65535 ≤ v → rows_from n asked v ≡ range_row asked 65535 ∷ []
unfolding rows_from
rows-last zero asked v h = refl
rows-last (suc n) asked v h = let e : ltb v 65535 ≡ false = grind (arith, nat_tests) in rw e refl

-- ---- the table that is built row by row

pub rows-start : (asked : List ℕ) (table : List (List ℕ)) → table ≡ [] → table ++ rows_from (65535 - length table) asked 0 ≡ range_rows asked
unfolding range_rows
rows-start asked table e = ap (λ (t : List (List ℕ)). t ++ rows_from (65535 - length t) asked 0) e

pub rows-step : (asked : List ℕ) (table new : List (List ℕ)) (row : List ℕ) (v w : ℕ) → v < 65535 → length table ≤ v → new ≡ table ++ row ∷ []
    → row ≡ range_row asked v → w ≡ value_behind asked v
    → new ++ rows_from (65535 - length new) asked w ≡ table ++ rows_from (65535 - length table) asked v
rows-step asked table new row v w below turns new_is row_is w_is =
    ap (λ (t : List (List ℕ)). t ++ rows_from (65535 - length new) asked w) new_is
    ∙ append_assoc table (row ∷ []) (rows_from (65535 - length new) asked w)
    ∙ ap (λ rows. table ++ rows)
    (ap₂ (λ (r : List ℕ) (n : ℕ). r ∷ rows_from (65535 - length new) asked n) row_is w_is
    ∙ sym (rows-more (65535 - length new) asked v below) ∙ ap (λ n. rows_from n asked v) (sym left))
  where
    longer : length new ≡ length table + 1
    longer = ap length new_is ∙ length_push table row

    left : 65535 - length table ≡ suc (65535 - length new)
    left = omega (arith, longer, turns, below)

pub rows-done : (asked : List ℕ) (table new : List (List ℕ)) (row : List ℕ) (v : ℕ) → 65535 ≤ v → new ≡ table ++ row ∷ []
    → row ≡ range_row asked 65535
    → table ++ rows_from (65535 - length table) asked v ≡ range_rows asked → new ≡ range_rows asked
rows-done asked table new row v past new_is row_is rows_are =
    new_is ∙ ap (λ (r : List ℕ). table ++ r ∷ []) row_is ∙ ap (λ rows. table ++ rows) (sym (rows-last (65535 - length table) asked v past)) ∙ rows_are

-- the row of a value by its count
pub row-of_times : (asked times row : List ℕ) (v : ℕ) → AreTimes asked times → v < 65536 → row ≡ slice_index times v ∷ v ∷ []
    → row ≡ range_row asked v
unfolding range_row
row-of_times asked times row v are within is = is ∙ ap (λ (n : ℕ). n ∷ v ∷ []) (are.counts v within)
