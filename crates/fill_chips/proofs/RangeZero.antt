-- The entries of the range table are 0, and it has few rows.
use Rattle.fill_chips.proofs.Words.{◌≡◌, ℕ, zero, suc, ◌+◌, ◌-◌, ◌<◌, ◌≤◌, inl, inr, true, false, cond, eqb, ltb, leb, List, [], ◌∷◌, length, slice_get}
use Rattle.fill_chips.proofs.Words.{slice_index_or, refl, sym, ap, subst, ◌∙◌, arith, cases_lt, nat_tests, ◌⊟◌, ◌⊠◌, at_number, spot_of, allowed_steps}
use Rattle.fill_chips.proofs.Words.{next_asked, range_row, range_rows, rows_from, step_within, value_behind}
use Rattle.chip_columns.specs.RangeColumns.{v as value_of}
use Rattle.air_kit.specs.ChipPlaces.{in_last, only, paired}
use Rattle.air_kit.specs.RangeValues.{range_step, range_values}
use Rattle.facts_memory.proofs.Cells.{each_at, no_values, value_then}
use Rattle.facts_memory.proofs.RowsZero.{zero_number}
use Rattle.fill_chips.proofs.NextLemmas.{next-last}
use Rattle.fill_chips.proofs.RowsFrom.{behind-is, behind-last, behind-on, rows-last, rows-more}
use Rattle.fill_chips.proofs.StepLemmas.{step-cons, step-far}

-- 0 where the difference is one of the steps
step_product : ℕ → ℕ
step_product d = d ⊠ (d ⊟ 1) ⊠ (d ⊟ 3) ⊠ (d ⊟ 9) ⊠ (d ⊟ 27) ⊠ (d ⊟ 81) ⊠ (d ⊟ 243) ⊠ (d ⊟ 729) ⊠ (d ⊟ 2187)

step-is : (x y : List ℕ) → range_step x y ≡ step_product (value_of y ⊟ value_of x)
unfolding range_step step_product
step-is x y = refl

product_cons : (s : ℕ) (steps : List ℕ) (d : ℕ) → step_product s ≡ 0 → step_product (step_within steps d) ≡ 0
    → step_product (step_within (s ∷ steps) d) ≡ 0
product_cons s steps d here later =
    ap step_product (step-cons s steps d) ∙ elim (leb s d) as (λ b. step_product (cond b s (step_within steps d)) ≡ 0) [ true ↦ here | false ↦ later ]

product_none : (d : ℕ) → step_product (step_within [] d) ≡ 0
unfolding step_product step_within
product_none d = refl

-- each step is allowed
product-zero : (d : ℕ) → step_product (step_within allowed_steps d) ≡ 0
unfolding step_product
product-zero d =
    product_cons 2187 _ d refl (product_cons 729 _ d refl (product_cons 243 _ d refl (product_cons 81 _ d refl
    (product_cons 27 _ d refl (product_cons 9 _ d refl (product_cons 3 _ d refl (product_cons 1 _ d refl (product_none d))))))))

value-is : (asked : List ℕ) (v : ℕ) → value_of (range_row asked v) ≡ v
unfolding range_row
value-is asked v = refl

next-zero : (asked : List ℕ) (v : ℕ) → v < 65535 → range_step (range_row asked v) (range_row asked (value_behind asked v)) ≡ 0
next-zero asked v below =
    let d = next_asked asked v - v in
    let s = step_within allowed_steps d in
    let last = next-last asked v in
    let far = step-far allowed_steps d in
    let is = behind-is asked v in
    let difference : (value_of (range_row asked (value_behind asked v)) ⊟ value_of (range_row asked v)) ≡ s =
    ap (λ n. n ⊟ value_of (range_row asked v)) (value-is asked (value_behind asked v)) ∙ ap (λ n. value_behind asked v ⊟ n) (value-is asked v)
    ∙ ap (λ n. n ⊟ v) is ∙ step_back v s (omega (arith, far, last)) in
    step-is (range_row asked v) (range_row asked (value_behind asked v)) ∙ ap step_product difference ∙ product-zero d
  where
    step_back : (n m : ℕ) → n + m < 65537 → ((n + m) ⊟ n) ≡ m
    step_back n m low = omega arith

-- ---- each row and the one behind it

unfoldable Chained : List (List ℕ) → Type 0
Chained [] = ⊥
Chained (x ∷ []) = value_of x ≡ 65535
Chained (x ∷ y ∷ rows) = (range_step x y ≡ 0) × Chained (y ∷ rows)

-- rows that begin with this one, and are chained
record BeginsWith (x : List ℕ) (rows : List (List ℕ)) : Type 0 where
  pub behind : List (List ℕ)
  pub is : rows ≡ x ∷ behind
  pub chained : Chained (x ∷ behind)

last-begins : (asked : List ℕ) (v : ℕ) → v ≡ 65535 → BeginsWith (range_row asked v) (range_row asked 65535 ∷ [])
unfolding Chained
last-begins asked v last = record {
  behind = [];
  is = ap (λ n. range_row asked n ∷ []) (sym last);
  chained = value-is asked v ∙ last;
}

from-begins : (n : ℕ) (asked : List ℕ) (v : ℕ) → 65535 ≤ v + n → v ≤ 65535 → BeginsWith (range_row asked v) (rows_from n asked v)
unfolding Chained
from-begins zero asked v enough low =
    subst (BeginsWith (range_row asked v)) (sym (rows-last 0 asked v (omega arith))) (last-begins asked v (omega arith))
from-begins (suc n) asked v enough low = elim (cases_lt v 65535) [
  | inr past ↦ subst (BeginsWith (range_row asked v)) (sym (rows-last (suc n) asked v past)) (last-begins asked v (omega arith))
  | inl below ↦
      let on = behind-on asked v below in
      let later = from-begins n asked (value_behind asked v) (omega (arith, on, enough)) (behind-last asked v below) in
      record {
        behind = range_row asked (value_behind asked v) ∷ later.behind;
        is = rows-more n asked v below ∙ ap (λ rows. range_row asked v ∷ rows) later.is;
        chained = (next-zero asked v below, later.chained);
      }
]

chained-zero : (rows : List (List ℕ)) → Chained rows → (i : ℕ) → i < length rows
    → (in_last (value_of (slice_index_or rows i []) ⊟ 65535) (slice_get rows (suc i)) ≡ 0)
    × (paired (λ y. range_step (slice_index_or rows i []) y) (slice_get rows (suc i)) ≡ 0)
unfolding Chained
chained-zero [] chained i within = absurd chained
chained-zero (x ∷ []) chained zero within = (ap (λ n. n ⊟ 65535) chained, refl)
chained-zero (x ∷ []) chained (suc i) within = absurd (omega arith)
chained-zero (x ∷ y ∷ rows) chained zero within = (refl, chained.0)
chained-zero (x ∷ y ∷ rows) chained (suc i) within = chained-zero (y ∷ rows) chained.1 i (omega arith)

three_zero : (a b c number : ℕ) → a ≡ 0 → b ≡ 0 → c ≡ 0 → at_number (a ∷ b ∷ c ∷ []) number ≡ 0
three_zero a b c number za zb zc =
    zero_number (a ∷ b ∷ c ∷ []) number
    (each_at (λ v. v ≡ 0) (a ∷ b ∷ c ∷ []) refl (value_then za (value_then zb (value_then zc no_values))))

only_later : (i n : ℕ) → only (eqb (suc i) 0) n ≡ 0
only_later i n = let e : eqb (suc i) 0 ≡ false = grind (arith, nat_tests) in rw e refl

rows-zero : (x : List ℕ) (rows : List (List ℕ)) → value_of x ≡ 0 → BeginsWith x rows → (i number : ℕ) → i < length rows
    → at_number (range_values (spot_of rows i)) number ≡ 0
unfolding range_values
rows-zero x rows first begins zero number within =
    let both = chained-zero rows (subst Chained (sym begins.is) begins.chained) 0 within in
    three_zero _ _ _ number (ap (λ (rs : List (List ℕ)). value_of (slice_index_or rs 0 [])) begins.is ∙ first) both.0 both.1
rows-zero x rows first begins (suc i) number within =
    let both = chained-zero rows (subst Chained (sym begins.is) begins.chained) (suc i) within in
    three_zero _ _ _ number (only_later i (value_of (slice_index_or rows (suc i) []))) both.0 both.1

all-begins : (asked : List ℕ) → BeginsWith (range_row asked 0) (range_rows asked)
unfolding range_rows
all-begins asked = from-begins 65535 asked 0 (omega arith) (omega arith)

pub range-zero : (asked : List ℕ) (i number : ℕ) → i < length (range_rows asked) → at_number (range_values (spot_of (range_rows asked) i)) number ≡ 0
range-zero asked i number within = rows-zero (range_row asked 0) (range_rows asked) (value-is asked 0) (all-begins asked) i number within

-- ---- how many rows there are

from-few : (n : ℕ) (asked : List ℕ) (v : ℕ) → length (rows_from n asked v) ≤ n + 1
unfolding rows_from
from-few zero asked v = omega arith
from-few (suc n) asked v =
    let later = from-few n asked (value_behind asked v) in
    elim (ltb v 65535) as (λ b. length (cond b (range_row asked v ∷ rows_from n asked (value_behind asked v))
    (range_row asked 65535 ∷ [])) ≤ suc n + 1) [
      | true ↦ omega (arith, later)
      | false ↦ omega arith
    ]

pub range-few : (asked : List ℕ) → length (range_rows asked) ≤ 65536
unfolding range_rows
range-few asked = from-few 65535 asked 0

pub range-some : (asked : List ℕ) → 1 ≤ length (range_rows asked)
range-some asked = let begins = all-begins asked in omega (arith, ap length begins.is)
