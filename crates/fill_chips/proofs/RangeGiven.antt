-- The range table gives each value as often as it is asked.
use Rattle.fill_chips.proofs.Words.{◌≡◌, ℕ, zero, suc, ◌+◌, ◌<◌, ◌≤◌, inl, inr, Bool, true, false, ◌&&◌, cond, eqb, ltb, nat_eq, List, [], ◌∷◌, map, All}
use Rattle.fill_chips.proofs.Words.{refl, sym, ap, ap₂, ◌∙◌, arith, cases_lt, nat_tests, All-head, All-tail, pointwise, counted, once, over_rows, range_given}
use Rattle.fill_chips.proofs.Words.{range_row, range_rows, rows_from, times_asked, value_behind}
use Rattle.fill_chips.proofs.GivenLemmas.{over-cons, over-none}
use Rattle.fill_chips.proofs.NextLemmas.{next-least, times-cons}
use Rattle.fill_chips.proofs.RowsFrom.{behind-far, behind-last, behind-on, rows-last, rows-more}

-- how often rows give a tuple
abbrev pub range_over : List (List ℕ) → List ℕ → ℕ
range_over rows u = over_rows (λ i row next. range_given row) rows u

single_by : (b : Bool) (n : ℕ) → cond (b && true) n 0 + 0 ≡ cond b n 0
single_by true n = omega arith
single_by false n = refl

row-single : (asked : List ℕ) (v w : ℕ) → counted (range_given (range_row asked v)) (w ∷ []) ≡ cond (eqb v w) (times_asked asked v) 0
unfolding range_given counted range_row
row-single asked v w = single_by (eqb v w) (times_asked asked v)

other_by : (b : Bool) (n : ℕ) → b ≡ false → cond b n 0 + 0 ≡ 0
other_by true n e = absurd (cc)
other_by false n e = refl

row-other : (asked : List ℕ) (v : ℕ) (u : List ℕ) → pointwise nat_eq (v ∷ []) u ≡ false → counted (range_given (range_row asked v)) u ≡ 0
unfolding range_given counted range_row
row-other asked v u e = other_by (pointwise nat_eq (v ∷ []) u) (times_asked asked v) e

-- ---- what is asked

asked-single : (asked : List ℕ) (w : ℕ) → counted (map (λ v. once (v ∷ [])) asked) (w ∷ []) ≡ times_asked asked w
unfolding counted
asked-single [] w = refl
asked-single (v ∷ asked) w =
    ap₂ (λ m n. m + n) (one_by (eqb v w)) (asked-single asked w) ∙ sym (times-cons v asked w)
  where
    one_by : (b : Bool) → ◌≡◌ {A = ℕ} (cond (b && true) 1 0) (cond b 1 0)
    one_by true = refl
    one_by false = refl

asked-other : (asked u : List ℕ) → ((v : ℕ) → pointwise nat_eq (v ∷ []) u ≡ false) → counted (map (λ v. once (v ∷ [])) asked) u ≡ 0
unfolding counted
asked-other [] u none = refl
asked-other (v ∷ asked) u none = let later = asked-other asked u none in rw (none v) (omega (arith, later))

times-beyond : (asked : List ℕ) (w : ℕ) → All (λ v. v < 65536) asked → 65535 < w → times_asked asked w ≡ 0
times-beyond [] w small beyond = refl
times-beyond (v ∷ asked) w small beyond =
    let e = times-cons v asked w in
    let later = times-beyond asked w (All-tail (λ n. n < 65536) v asked small) beyond in
    let low = All-head (λ n. n < 65536) v asked small in
    grind (arith, nat_tests)

-- ---- what the rows from a value on give

last-single : (asked : List ℕ) (v w : ℕ) → v ≡ 65535 → (65535 < w → times_asked asked w ≡ 0)
    → range_over (range_row asked 65535 ∷ []) (w ∷ []) ≡ cond (ltb w v) 0 (times_asked asked w)
last-single asked v w last none =
    let e : range_over (range_row asked 65535 ∷ []) (w ∷ []) ≡ cond (eqb 65535 w) (times_asked asked 65535) 0 + 0 =
    over-cons range_given (range_row asked 65535) [] (w ∷ [])
    ∙ ap₂ (λ m n. m + n) (row-single asked 65535 w) (over-none (λ i row next. range_given row) (w ∷ [])) in
    elim (cases_lt w 65535) [
      | inl less ↦ grind (arith, nat_tests)
      | inr more ↦ elim (cases_lt 65535 w) [
        | inl beyond ↦ let zero_times = none beyond in grind (arith, nat_tests)
        | inr low ↦
            let same : w ≡ 65535 = omega arith in
            let alike : times_asked asked w ≡ times_asked asked 65535 = ap (times_asked asked) same in
            grind (arith, nat_tests)
      ]
    ]

from-single : (n : ℕ) (asked : List ℕ) (v w : ℕ) → 65535 ≤ v + n → v ≤ 65535 → (65535 < w → times_asked asked w ≡ 0)
    → range_over (rows_from n asked v) (w ∷ []) ≡ cond (ltb w v) 0 (times_asked asked w)
from-single zero asked v w enough low none =
    ap (λ rows. range_over rows (w ∷ [])) (rows-last 0 asked v (omega arith)) ∙ last-single asked v w (omega arith) none
from-single (suc n) asked v w enough low none = elim (cases_lt v 65535) [
  | inr past ↦ ap (λ rows. range_over rows (w ∷ [])) (rows-last (suc n) asked v past) ∙ last-single asked v w (omega arith) none
  | inl below ↦
      let on = behind-on asked v below in
      let far = behind-far asked v below in
      let later = from-single n asked (value_behind asked v) w (omega (arith, on, enough)) (behind-last asked v below) none in
      let e : range_over (rows_from (suc n) asked v) (w ∷ [])
      ≡ cond (eqb v w) (times_asked asked v) 0 + range_over (rows_from n asked (value_behind asked v)) (w ∷ []) =
      ap (λ rows. range_over rows (w ∷ [])) (rows-more n asked v below)
      ∙ over-cons range_given (range_row asked v) (rows_from n asked (value_behind asked v)) (w ∷ [])
      ∙ ap (λ m. m + range_over (rows_from n asked (value_behind asked v)) (w ∷ [])) (row-single asked v w) in
      elim (cases_lt w v) [
        | inl less ↦ grind (arith, nat_tests)
        | inr more ↦ elim (cases_lt v w) [
          | inr same_low ↦
              let same : v ≡ w = omega arith in
              let alike : times_asked asked v ≡ times_asked asked w = ap (times_asked asked) same in
              grind (arith, nat_tests)
          | inl above ↦ elim (cases_lt w (value_behind asked v)) [
            | inl before ↦ let zero_times = next-least asked v w above (omega (arith, far, before)) in grind (arith, nat_tests)
            | inr behind ↦ grind (arith, nat_tests)
          ]
        ]
      ]
]

last-other : (asked u : List ℕ) → ((w : ℕ) → pointwise nat_eq (w ∷ []) u ≡ false) → range_over (range_row asked 65535 ∷ []) u ≡ 0
last-other asked u none =
    over-cons range_given (range_row asked 65535) [] u
    ∙ ap₂ (λ m n. m + n) (row-other asked 65535 u (none 65535)) (over-none (λ i row next. range_given row) u)

from-other : (n : ℕ) (asked : List ℕ) (v : ℕ) (u : List ℕ) → ((w : ℕ) → pointwise nat_eq (w ∷ []) u ≡ false) → range_over (rows_from n asked v) u ≡ 0
unfolding rows_from
from-other zero asked v u none = last-other asked u none
from-other (suc n) asked v u none =
    elim (ltb v 65535) as (λ b. range_over
    (cond b (range_row asked v ∷ rows_from n asked (value_behind asked v)) (range_row asked 65535 ∷ [])) u ≡ 0) [
      | true ↦
          over-cons range_given (range_row asked v) (rows_from n asked (value_behind asked v)) u
          ∙ ap₂ (λ m n. m + n) (row-other asked v u (none v)) (from-other n asked (value_behind asked v) u none)
      | false ↦ last-other asked u none
    ]

rows-other : (asked u : List ℕ) → ((w : ℕ) → pointwise nat_eq (w ∷ []) u ≡ false)
    → range_over (range_rows asked) u ≡ counted (map (λ v. once (v ∷ [])) asked) u
unfolding range_rows
rows-other asked u none = from-other 65535 asked 0 u none ∙ sym (asked-other asked u none)

rows-single : (asked : List ℕ) (w : ℕ) → All (λ v. v < 65536) asked
    → range_over (range_rows asked) (w ∷ []) ≡ counted (map (λ v. once (v ∷ [])) asked) (w ∷ [])
unfolding range_rows
rows-single asked w small =
    from-single 65535 asked 0 w (omega arith) (omega arith) (times-beyond asked w small) ∙ from_zero (times_asked asked w)
    ∙ sym (asked-single asked w)
  where
    from_zero : (n : ℕ) → cond (ltb w 0) 0 n ≡ n
    from_zero n = grind (arith, nat_tests)

apart_longer : (w a b : ℕ) (us : List ℕ) → pointwise nat_eq (w ∷ []) (a ∷ b ∷ us) ≡ false
apart_longer w a b us = elim (eqb w a) as (λ t. (t && false) ≡ false) [ true ↦ refl | false ↦ refl ]

pub range_gives : (asked u : List ℕ) → All (λ v. v < 65536) asked → range_over (range_rows asked) u ≡ counted (map (λ v. once (v ∷ [])) asked) u
range_gives asked [] small = rows-other asked [] (λ w. refl)
range_gives asked (w ∷ []) small = rows-single asked w small
range_gives asked (a ∷ b ∷ us) small = rows-other asked (a ∷ b ∷ us) (λ w. apart_longer w a b us)
